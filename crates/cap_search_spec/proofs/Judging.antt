-- What the record says when a unit was walked through.
use Rattle.std.proofs.Common.{◌≡◌, ℕ, ◌<◌, ◌≤◌, true, false, List, length, Option, Some, None, nat_lt, refl, ◌∙◌, arith}
use Rattle.std.proofs.lemmas.Bool.Decides.{nat_tests}
use Rattle.cap_prog.specs.Program.{PlainProgram}
use Rattle.cap_goal_spec.specs.States.{PlainGoal}
use Rattle.cap_goal_spec.specs.Choices.{PlainTree}
use Rattle.cap_search_spec.specs.Seeking.{unit_trees, unit_visits, failing_root}
use Rattle.cap_search_spec.specs.Verdicts.{proved, spent, unproved, by_trees, found}
use Rattle.cap_search_spec.specs.Walks.{PlainWalk, fresh_walk, unit_walked, found_by}
use Rattle.cap_search_spec.specs.Laws.{WalksTellVerdicts}
use Rattle.cap_search_spec.proofs.Counting.{unit-counts, unit-spent}

test-false : (a b : ℕ) → b ≤ a → nat_lt a b ≡ false
test-false a b h = grind (arith, nat_tests)

test-true : (a b : ℕ) → a < b → nat_lt a b ≡ true
test-true a b h = grind (arith, nat_tests)

pub spent_found : (p : PlainProgram) (budget : ℕ) (rs : List (Option PlainGoal)) → unit_walked p 0 (fresh_walk budget) rs ≡ None → found p budget rs ≡ spent budget
unfolding found
spent_found p budget rs e = let k = unit-spent p rs 0 (fresh_walk budget) e in rw (test-true budget (length (unit_visits p rs)) k) refl

pub found-within : (p : PlainProgram) (budget : ℕ) (rs : List (Option PlainGoal)) → length (unit_visits p rs) ≤ budget → found p budget rs ≡ by_trees p (unit_trees p rs) rs
unfolding found
found-within p budget rs h = rw (test-false budget (length (unit_visits p rs)) h) refl

pub proved_found : (p : PlainProgram) (budget : ℕ) (rs : List (Option PlainGoal)) (u : PlainWalk) (ts : List (Option PlainTree)) → unit_walked p 0 (fresh_walk budget) rs ≡ Some u → unit_trees p rs ≡ Some ts → found p budget rs ≡ proved ts
proved_found p budget rs u ts e h = let k = unit-counts p rs 0 (fresh_walk budget) u e in found-within p budget rs (omega (arith, k.left)) ∙ rw h refl

pub unproved_found : (p : PlainProgram) (budget : ℕ) (rs : List (Option PlainGoal)) (u : PlainWalk) → unit_walked p 0 (fresh_walk budget) rs ≡ Some u → unit_trees p rs ≡ None → found p budget rs ≡ unproved u.deep u.notes u.root u.leaf
unproved_found p budget rs u e h =
    let k = unit-counts p rs 0 (fresh_walk budget) u e in
    let r : u.root ≡ failing_root p rs = (let m = k.root h in omega (arith, m)) in
    found-within p budget rs (omega (arith, k.left)) ∙ rw (h, k.deep, k.notes, r, k.leaf h) refl

pub not-less : (a b : ℕ) → nat_lt a b ≡ false → b ≤ a
not-less a b h = grind (arith, nat_tests)

told-by : (p : PlainProgram) (budget : ℕ) (rs : List (Option PlainGoal)) (o : Option PlainWalk) (t : Option (List (Option PlainTree))) → unit_walked p 0 (fresh_walk budget) rs ≡ o → unit_trees p rs ≡ t → found p budget rs ≡ found_by budget o t
told-by p budget rs None t e h = spent_found p budget rs e
told-by p budget rs (Some u) (Some ts) e h = proved_found p budget rs u ts e h
told-by p budget rs (Some u) None e h = unproved_found p budget rs u e h

pub walks-tell-verdicts : WalksTellVerdicts
walks-tell-verdicts p n rs = told-by p n rs (unit_walked p 0 (fresh_walk n) rs) (unit_trees p rs) refl refl
