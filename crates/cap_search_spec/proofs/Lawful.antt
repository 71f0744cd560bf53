-- The laws of verdicts.
use Rattle.std.proofs.Common.{◌≡◌, ℕ, ℤ, suc, nat_lt, Bool, true, false, if◌then◌else◌, List, [], ◌∷◌, ◌++◌, flat_map, length, Option, Some, None, option_map, refl, ap, ◌∙◌, subst, arith}
use Rattle.std.specs.List.{AllByRecursion, AllZip}
use Rattle.cap_lin.specs.Steps.{first_wide}
use Rattle.cap_lin.proofs.Results.{first_wide-nil, first-narrow}
use Rattle.cap_prog.specs.Program.{PlainProgram}
use Rattle.cap_goal_spec.specs.States.{PlainGoal}
use Rattle.cap_goal_spec.specs.Choices.{PlainTree, node, PlainTrees, no_trees, tree}
use Rattle.cap_goal_spec.specs.Roots.{PlainUnit, roots, roots_steps, units, all_roots}
use Rattle.cap_rules.specs.Valid.{deepest, Derives, AllDerive, RootDerives}
use Rattle.cap_rules.specs.Answers.{Subgoals}
use Rattle.cap_offer_spec.specs.Deciding.{PlainNotes, clean}
use Rattle.cap_search_spec.specs.Guided.{IsGuided, AreGuided, IsFirst, IsRootTree}
use Rattle.cap_search_spec.specs.Seeking.{◌>>=◌, tree_within, root_tree, unit_trees, unit_visits, failing_visits, failing_root}
use Rattle.cap_search_spec.specs.Leaves.{Leaf}
use Rattle.cap_search_spec.specs.Verdicts.{Finding, proved, spent, deep, too_wide, too_many, stuck, by_notes, unproved, by_trees, found, any_deep, notes_of, leaves_of, furthest, is_proved, verdict_of, unless_wide, verdict}
use Rattle.cap_search_spec.specs.Laws.{FoundAreFirst, FirstAreGuided, FirstAreUnique, GuidedAreDerivations, GuidedAreFound, DeepIsSeen, IsStuck, StuckIsFurthest, IsProved, ProvedAreValid}
use Rattle.cap_rules_ascending.proofs.Roots.{roots-ascend}
use Rattle.cap_search_spec.proofs.Applies.{RootApplies, roots-apply}
use Rattle.cap_search_spec.proofs.Guiding.{within, first-is-guided, first-unique}
use Rattle.cap_search_spec.proofs.Judging.{found-within, not-less}
use Rattle.cap_search_spec.proofs.Leaves.{unit-leaf, furthest-is, full-furthest}

-- ---- what a finding says
plain-notes : (w : Option (ℤ × ℤ)) (r : Bool) (i : ℕ) (f : Option Leaf) (ts : List (Option PlainTree)) → by_notes w r i f ≡ proved ts → ⊥
plain-notes (Some q) r i f ts h = cc
plain-notes None true i f ts h = cc
plain-notes None false i None ts h = cc
plain-notes None false i (Some l) ts h = cc

never-proved : (d : Bool) (m : PlainNotes) (i : ℕ) (f : Option Leaf) (ts : List (Option PlainTree)) → unproved d m i f ≡ proved ts → ⊥
never-proved true m i f ts h = cc
never-proved false m i f ts h = plain-notes m.wide m.rows i f ts h

proved-by : (b : Bool) (p : PlainProgram) (n : ℕ) (rs : List (Option PlainGoal)) (o : Option (List (Option PlainTree))) (ts : List (Option PlainTree)) → (if b then spent n else by_trees p o rs) ≡ proved ts → o ≡ Some ts
proved-by true p n rs o ts h = absurd cc
proved-by false p n rs (Some us) ts h = let e : us ≡ ts = cc in ap (λ x. Some x) e
proved-by false p n rs None ts h = absurd (never-proved (any_deep (unit_visits p rs)) (notes_of p (unit_visits p rs)) (failing_root p rs) (furthest None (leaves_of p (failing_visits p rs))) ts h)

proved-trees : (p : PlainProgram) (n : ℕ) (rs : List (Option PlainGoal)) (ts : List (Option PlainTree)) → found p n rs ≡ proved ts → unit_trees p rs ≡ Some ts
unfolding found
proved-trees p n rs ts h = proved-by (nat_lt n (length (unit_visits p rs))) p n rs (unit_trees p rs) ts h

-- ---- trees of a unit
root-first-by : (p : PlainProgram) (g : PlainGoal) (t : Option PlainTree) (o : Option PlainTree) → RootApplies p (Some g) → tree_within p deepest g ≡ o → option_map Some o ≡ Some t → IsRootTree (IsFirst p) t (Some g)
root-first-by p g t None s e h = absurd cc
root-first-by p g None (Some u) s e h = absurd cc
root-first-by p g (Some t) (Some u) s e h =
    let k : u ≡ t = cc in
    let P : PlainTree → Type 0 = λ x. IsFirst p 1 x g in
    subst P k ((within p deepest 1 (omega arith)).sound g u s e)

root-first : (p : PlainProgram) (r : Option PlainGoal) (t : Option PlainTree) → RootApplies p r → root_tree p r ≡ Some t → IsRootTree (IsFirst p) t r
root-first p None None s h = tt
root-first p None (Some t) s h = absurd cc
root-first p (Some g) t s h = root-first-by p g t (tree_within p deepest g) s refl h

unit-first-by : (p : PlainProgram) (r : Option PlainGoal) (rs : List (Option PlainGoal)) (us : List (Option PlainTree)) (o : Option (Option PlainTree)) (q : Option (List (Option PlainTree))) → RootApplies p r → root_tree p r ≡ o → unit_trees p rs ≡ q →
    ((ts : List (Option PlainTree)) → unit_trees p rs ≡ Some ts → AllZip (IsRootTree (IsFirst p)) ts rs) → (o >>= λ t. q >>= λ ts. Some (t ∷ ts)) ≡ Some us → AllZip (IsRootTree (IsFirst p)) us (r ∷ rs)
unit-first-by p r rs us None q s a b f h = absurd cc
unit-first-by p r rs us (Some t) None s a b f h = absurd cc
unit-first-by p r rs us (Some t) (Some ts) s a b f h =
    let k : t ∷ ts ≡ us = cc in
    let P : List (Option PlainTree) → Type 0 = λ x. AllZip (IsRootTree (IsFirst p)) x (r ∷ rs) in
    subst P k (root-first p r t s a, f ts b)

unit-first : (p : PlainProgram) (rs : List (Option PlainGoal)) (ts : List (Option PlainTree)) → AllByRecursion (RootApplies p) rs → unit_trees p rs ≡ Some ts → AllZip (IsRootTree (IsFirst p)) ts rs
unfolding unit_trees
unit-first p [] ts s h =
    let k : [] ≡ ts = cc in
    let P : List (Option PlainTree) → Type 0 = λ x. AllZip (IsRootTree (IsFirst p)) x [] in
    subst P k tt
unit-first p (r ∷ rs) us s h = unit-first-by p r rs us (root_tree p r) (unit_trees p rs) s.0 refl refl (λ ts k. unit-first p rs ts s.1 k) h

root-there : (p : PlainProgram) (r : Option PlainGoal) (t : Option PlainTree) → IsRootTree (IsGuided p) t r → (u : Option PlainTree) × (root_tree p r ≡ Some u)
root-there p None t h = (None, refl)
root-there p (Some g) None h = absurd h
root-there p (Some g) (Some t) h = let w = (within p deepest 1 (omega arith)).complete g t h in (Some w.0, rw w.1 refl)

unit-there : (p : PlainProgram) (rs : List (Option PlainGoal)) (ts : List (Option PlainTree)) → AllZip (IsRootTree (IsGuided p)) ts rs → (us : List (Option PlainTree)) × (unit_trees p rs ≡ Some us)
unfolding unit_trees
unit-there p [] ts h = ([], refl)
unit-there p (r ∷ rs) [] h = absurd h
unit-there p (r ∷ rs) (t ∷ ts) h =
    let a = root-there p r t h.0 in
    let b = unit-there p rs ts h.1 in
    (a.0 ∷ b.0, rw (a.1, b.1) refl)

-- ---- the laws
pub found-are-first : FoundAreFirst
found-are-first p n rs ts s h = unit-first p rs ts (roots-apply p rs s) (proved-trees p n rs ts h)

pub first-are-guided : FirstAreGuided
first-are-guided = first-is-guided

pub first-are-unique : FirstAreUnique
first-are-unique = first-unique

mutual
  guided-derives : (p : PlainProgram) (d : ℕ) (t : PlainTree) (g : PlainGoal) → IsGuided p d t g → Derives p d t g
  guided-derives p d (node c ts) g h = (h.0, h.1, h.2.1, all-derive p (suc d) ts h.1 h.3)

  all-derive : (p : PlainProgram) (d : ℕ) (ts : PlainTrees) (gs : List PlainGoal) → AreGuided p d ts gs → AllDerive (Subgoals p) d ts gs
  all-derive p d no_trees [] h = tt
  all-derive p d no_trees (g ∷ gs) h = h
  all-derive p d (tree t ts) [] h = h
  all-derive p d (tree t ts) (g ∷ gs) h = (guided-derives p d t g h.0, all-derive p d ts gs h.1)

pub guided-are-derivations : GuidedAreDerivations
guided-are-derivations = guided-derives

pub guided-are-found : GuidedAreFound
guided-are-found p n rs ts h k = let u = unit-there p rs ts h in (u.0, found-within p n rs k ∙ rw u.1 refl)

deep-by-notes : (w : Option (ℤ × ℤ)) (r : Bool) (i : ℕ) (f : Option Leaf) → ((l : Leaf) × (f ≡ Some l)) → by_notes w r i f ≡ deep → ⊥
deep-by-notes (Some q) r i f h e = cc
deep-by-notes None true i f h e = cc
deep-by-notes None false i None h e = absurd (let k = h.1 in cc)
deep-by-notes None false i (Some l) h e = cc

deep-by : (d : Bool) (m : PlainNotes) (i : ℕ) (f : Option Leaf) → (d ≡ false → (l : Leaf) × (f ≡ Some l)) → unproved d m i f ≡ deep → d ≡ true
deep-by true m i f h e = refl
deep-by false m i f h e = absurd (deep-by-notes m.wide m.rows i f (h refl) e)

deep-of : (b : Bool) (p : PlainProgram) (n : ℕ) (rs : List (Option PlainGoal)) (o : Option (List (Option PlainTree))) → AllByRecursion (RootApplies p) rs → unit_trees p rs ≡ o → (if b then spent n else by_trees p o rs) ≡ deep → any_deep (unit_visits p rs) ≡ true
deep-of true p n rs o s e h = absurd cc
deep-of false p n rs (Some us) s e h = absurd cc
deep-of false p n rs None s e h = deep-by (any_deep (unit_visits p rs)) (notes_of p (unit_visits p rs)) (failing_root p rs) (furthest None (leaves_of p (failing_visits p rs))) (λ k. full-furthest (leaves_of p (failing_visits p rs)) (unit-leaf p rs s e k)) h

pub deep-is-seen : DeepIsSeen
unfolding found
deep-is-seen p n rs s h = deep-of (nat_lt n (length (unit_visits p rs))) p n rs (unit_trees p rs) (roots-apply p rs s) refl h

record OfNotes (w : Option (ℤ × ℤ)) (r : Bool) (i : ℕ) (f : Option Leaf) (j : ℕ) (l : Leaf) : Type 0 where
  wide : w ≡ None
  rows : r ≡ false
  number : i ≡ j
  leaf : f ≡ Some l

stuck-by-notes : (w : Option (ℤ × ℤ)) (r : Bool) (i : ℕ) (f : Option Leaf) (j : ℕ) (l : Leaf) → by_notes w r i f ≡ stuck j l → OfNotes w r i f j l
stuck-by-notes (Some q) r i f j l e = absurd cc
stuck-by-notes None true i f j l e = absurd cc
stuck-by-notes None false i None j l e = absurd cc
stuck-by-notes None false i (Some k) j l e = let q : k ≡ l = cc in let o : i ≡ j = cc in record { wide = refl; rows = refl; number = o; leaf = ap (λ x. Some x) q }

record OfUnproved (d : Bool) (m : PlainNotes) (i : ℕ) (f : Option Leaf) (j : ℕ) (l : Leaf) : Type 0 where
  shallow : d ≡ false
  others : OfNotes m.wide m.rows i f j l

stuck-by : (d : Bool) (m : PlainNotes) (i : ℕ) (f : Option Leaf) (j : ℕ) (l : Leaf) → unproved d m i f ≡ stuck j l → OfUnproved d m i f j l
stuck-by true m i f j l e = absurd cc
stuck-by false m i f j l e = record { shallow = refl; others = stuck-by-notes m.wide m.rows i f j l e }

clean-is : (m : PlainNotes) → m.wide ≡ None → m.rows ≡ false → m ≡ clean
clean-is m h k = let e : record { wide = m.wide; rows = m.rows } ≡ clean = rw (h, k) refl in e

stuck-of : (b : Bool) (p : PlainProgram) (n : ℕ) (rs : List (Option PlainGoal)) (o : Option (List (Option PlainTree))) (j : ℕ) (l : Leaf) → nat_lt n (length (unit_visits p rs)) ≡ b → unit_trees p rs ≡ o → (if b then spent n else by_trees p o rs) ≡ stuck j l → IsStuck p n rs j l
stuck-of true p n rs o j l b e h = absurd cc
stuck-of false p n rs (Some us) j l b e h = absurd cc
stuck-of false p n rs None j l b e h =
    let q = stuck-by (any_deep (unit_visits p rs)) (notes_of p (unit_visits p rs)) (failing_root p rs) (furthest None (leaves_of p (failing_visits p rs))) j l h in
    record {
      cost = not-less n (length (unit_visits p rs)) b;
      trees = e;
      shallow = q.shallow;
      notes = clean-is (notes_of p (unit_visits p rs)) q.others.wide q.others.rows;
      root = q.others.number;
      leaf = furthest-is (leaves_of p (failing_visits p rs)) l q.others.leaf;
    }

pub stuck-is-furthest : StuckIsFurthest
unfolding found
stuck-is-furthest p n rs j l h = stuck-of (nat_lt n (length (unit_visits p rs))) p n rs (unit_trees p rs) j l refl refl h

-- ---- all units
root-derives : (p : PlainProgram) (t : Option PlainTree) (r : Option PlainGoal) → IsRootTree (IsFirst p) t r → RootDerives p t r
root-derives p None None h = tt
root-derives p None (Some g) h = absurd h
root-derives p (Some t) None h = absurd h
root-derives p (Some t) (Some g) h = guided-derives p 1 t g (first-is-guided p 1 t g h)

pub roots-derive : (p : PlainProgram) (ts : List (Option PlainTree)) (rs : List (Option PlainGoal)) → AllZip (IsRootTree (IsFirst p)) ts rs → AllZip (RootDerives p) ts rs
roots-derive p [] [] h = tt
roots-derive p [] (r ∷ rs) h = absurd h
roots-derive p (t ∷ ts) [] h = absurd h
roots-derive p (t ∷ ts) (r ∷ rs) h = (root-derives p t r h.0, roots-derive p ts rs h.1)

zip-join : (p : PlainProgram) (ts us : List (Option PlainTree)) (rs qs : List (Option PlainGoal)) → AllZip (RootDerives p) ts rs → AllZip (RootDerives p) us qs → AllZip (RootDerives p) (ts ++ us) (rs ++ qs)
zip-join p [] us [] qs h k = k
zip-join p [] us (r ∷ rs) qs h k = absurd h
zip-join p (t ∷ ts) us [] qs h k = absurd h
zip-join p (t ∷ ts) us (r ∷ rs) qs h k = (h.0, zip-join p ts us rs qs h.1 k)

all-left : (p : PlainProgram) (xs ys : List (Option PlainGoal)) → AllByRecursion (RootApplies p) (xs ++ ys) → AllByRecursion (RootApplies p) xs × AllByRecursion (RootApplies p) ys
all-left p [] ys h = (tt, h)
all-left p (x ∷ xs) ys h = let k = all-left p xs ys h.1 in ((h.0, k.0), k.1)

found-proved : (p : PlainProgram) (u : PlainUnit) (v : Finding) (ts : List (Option PlainTree)) → verdict_of p u v ≡ is_proved ts → v ≡ proved ts
found-proved p u (proved us) ts h = let e : us ≡ ts = cc in ap (λ x. proved x) e
found-proved p u (spent n) ts h = absurd cc
found-proved p u deep ts h = absurd cc
found-proved p u (too_wide a b) ts h = absurd cc
found-proved p u too_many ts h = absurd cc
found-proved p u (stuck i l) ts h = absurd cc

-- what it means that a unit is proved by these trees
pub record OfVerdict (p : PlainProgram) (n : ℕ) (u : PlainUnit) (ts : List (Option PlainTree)) : Type 0 where
  pub narrow : first_wide (roots_steps p u) ≡ None
  pub found : found p n (roots p u) ≡ proved ts

narrow-proved : (p : PlainProgram) (n : ℕ) (u : PlainUnit) (ts : List (Option PlainTree)) (o : Option (ℤ × ℤ)) → first_wide (roots_steps p u) ≡ o → unless_wide o (verdict_of p u (found p n (roots p u))) ≡ is_proved ts → OfVerdict p n u ts
narrow-proved p n u ts (Some w) e h = absurd cc
narrow-proved p n u ts None e h = record { narrow = e; found = found-proved p u (found p n (roots p u)) ts h }

pub of-verdict : (p : PlainProgram) (n : ℕ) (u : PlainUnit) (ts : List (Option PlainTree)) → IsProved p n u ts → OfVerdict p n u ts
unfolding verdict
of-verdict p n u ts h = narrow-proved p n u ts (first_wide (roots_steps p u)) refl h

record OfUnits (p : PlainProgram) (trees_by : PlainUnit → List (Option PlainTree)) (us : List PlainUnit) : Type 0 where
  narrow : first_wide (flat_map (roots_steps p) us) ≡ None
  derive : AllZip (RootDerives p) (flat_map trees_by us) (flat_map (roots p) us)

of-units : (p : PlainProgram) (n : ℕ) (trees_by : PlainUnit → List (Option PlainTree)) (us : List PlainUnit) → AllByRecursion (RootApplies p) (flat_map (roots p) us) → AllByRecursion (λ u. IsProved p n u (trees_by u)) us → OfUnits p trees_by us
of-units p n trees_by [] s h = record { narrow = first_wide-nil; derive = tt }
of-units p n trees_by (u ∷ us) s h =
    let v = of-verdict p n u (trees_by u) h.0 in
    let a = all-left p (roots p u) (flat_map (roots p) us) s in
    let k = of-units p n trees_by us a.1 h.1 in
    record {
      narrow = first-narrow (roots_steps p u) (flat_map (roots_steps p) us) v.narrow ∙ k.narrow;
      derive = zip-join p (trees_by u) (flat_map trees_by us) (roots p u) (flat_map (roots p) us) (roots-derive p (trees_by u) (roots p u) (unit-first p (roots p u) (trees_by u) a.0 (proved-trees p n (roots p u) (trees_by u) v.found))) k.derive;
    }

pub proved-are-valid : ProvedAreValid
proved-are-valid p n trees_by s h = let k = of-units p n trees_by (units p) (roots-apply p (all_roots p) (roots-ascend p s)) h in record { narrow = k.narrow; derivations = k.derive }
