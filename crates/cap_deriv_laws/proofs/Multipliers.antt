-- A certificate that refutes rows may have no multiplier 0, and each certificate of a valid tree
-- refutes rows.
use Rattle.std.proofs.Common.{ℕ, suc, ◌+◌, ℤ, List, [], ◌∷◌, ◌++◌, Option, Some, None, subst, arith}
use Rattle.std.specs.Prelude.{◌≢◌, ◌<ℤ◌, pos}
use Rattle.std.specs.List.{AllByRecursion, AllZip}
use Rattle.cap_lin.specs.declared.row.Row.{Row}
use Rattle.cap_lin.specs.declared.row.Kind.{Kind}
use Rattle.cap_lin.specs.declared.row.Kind.TheVariants.{Le, Lt, Eq, Ne}
use Rattle.cap_farkas.specs.Farkas.{MayMultiply, row_at, Names}
use Rattle.cap_farkas.specs.Refutes.{Refutes}
use Rattle.cap_farkas.specs.declared.cert.Cert.{Cert}
use Rattle.cap_farkas.specs.declared.cert.Cert.TheVariants.{Leaf, Split}
use Rattle.cap_prog.specs.Program.{PlainProgram}
use Rattle.cap_goal_spec.specs.States.{PlainGoal}
use Rattle.cap_goal_spec.specs.Choices.{PlainChoice, certs_of, PlainTree, node, PlainTrees, no_trees, tree}
use Rattle.cap_goal_spec.specs.Roots.{all_roots}
use Rattle.cap_rules.specs.Answers.{marks_of, owed_lists, Subgoals}
use Rattle.cap_rules.specs.Laws.{SubgoalsSucceed}
use Rattle.cap_rules.specs.Rules.{rule}
use Rattle.cap_rules.specs.Valid.{Derives, AllDerive, RootDerives}
use Rattle.cap_deriv_write.specs.Bounds.{HasNoZero}
use Rattle.cap_deriv_write.specs.Preorder.{choices_of_tree, choices_of_trees, choices_of_root, choices_of_roots}
use Rattle.cap_deriv_laws.specs.Laws.{RefutationsHaveNoZero, ValidHaveNoZeros}

-- ---- certificates

above-zero : (z : ℤ) → pos 0 <ℤ z → z ≢ pos 0
above-zero z h e = let k : pos 0 <ℤ pos 0 = subst (λ (y : ℤ). pos 0 <ℤ y) e h in omega arith

may-multiply : (k : Kind) (z : ℤ) → MayMultiply k z → z ≢ pos 0
may-multiply Le z h = above-zero z h
may-multiply Lt z h = above-zero z h
may-multiply Eq z h = h
may-multiply Ne z h = absurd h

named : (low : ℕ) (rows : List Row) (ps : List (ℕ × ℤ)) → Names low rows ps → AllByRecursion (λ (p : ℕ × ℤ). p.1 ≢ pos 0) ps
unfolding Names
named low rows [] h = tt
named low rows (p ∷ ps) h = (may-multiply (row_at rows p.0).kind p.1 h.2, named (p.0 + 1) rows ps h.3)

pub no-zero : RefutationsHaveNoZero
no-zero rows (Leaf ps) h = named 0 rows ps h.names
no-zero rows (Split k ps qs) h =
    (tt, named 0 _ ps h.below_refuted.names, named 0 _ qs h.above_refuted.names)

all-refute : (ls : List (List Row)) (cs : List Cert) → AllZip Refutes ls cs → AllByRecursion HasNoZero cs
all-refute [] [] h = tt
all-refute [] (c ∷ cs) h = absurd h
all-refute (l ∷ ls) [] h = absurd h
all-refute (l ∷ ls) (c ∷ cs) h = (no-zero l c h.0, all-refute ls cs h.1)

-- ---- trees

abbrev ChoiceHasNone : PlainChoice → Type 0
ChoiceHasNone c = AllByRecursion HasNoZero (certs_of c)

both : (cs ds : List PlainChoice) → AllByRecursion ChoiceHasNone cs → AllByRecursion ChoiceHasNone ds → AllByRecursion ChoiceHasNone (cs ++ ds)
both [] ds h k = k
both (c ∷ cs) ds h k = (h.0, both cs ds h.1 k)

of-choice : SubgoalsSucceed → (p : PlainProgram) (g : PlainGoal) (c : PlainChoice) (gs : List PlainGoal) → Subgoals p g c gs → ChoiceHasNone c
of-choice law p g c gs h =
    all-refute (owed_lists (rule p g c (marks_of c)).events) (certs_of c) (law p g c gs h).refuted

mutual
  of-tree : SubgoalsSucceed → (p : PlainProgram) (d : ℕ) (t : PlainTree) (g : PlainGoal) → Derives p d t g → AllByRecursion ChoiceHasNone (choices_of_tree t)
  of-tree law p d (node c ts) g h = (of-choice law p g c h.1 h.2, of-trees law p (suc d) ts h.1 h.3)

  of-trees : SubgoalsSucceed → (p : PlainProgram) (d : ℕ) (ts : PlainTrees) (gs : List PlainGoal) → AllDerive (Subgoals p) d ts gs → AllByRecursion ChoiceHasNone (choices_of_trees ts)
  of-trees law p d no_trees gs h = tt
  of-trees law p d (tree t ts) [] h = absurd h
  of-trees law p d (tree t ts) (g ∷ gs) h =
      both (choices_of_tree t) (choices_of_trees ts) (of-tree law p d t g h.0) (of-trees law p d ts gs h.1)

of-root : SubgoalsSucceed → (p : PlainProgram) (t : Option PlainTree) (r : Option PlainGoal) → RootDerives p t r → AllByRecursion ChoiceHasNone (choices_of_root t)
of-root law p None r h = tt
of-root law p (Some t) None h = absurd h
of-root law p (Some t) (Some g) h = of-tree law p 1 t g h

of-roots : SubgoalsSucceed → (p : PlainProgram) (ts : List (Option PlainTree)) (rs : List (Option PlainGoal)) → AllZip (RootDerives p) ts rs → AllByRecursion ChoiceHasNone (choices_of_roots ts)
of-roots law p [] rs h = tt
of-roots law p (t ∷ ts) [] h = absurd h
of-roots law p (t ∷ ts) (r ∷ rs) h =
    both (choices_of_root t) (choices_of_roots ts) (of-root law p t r h.0) (of-roots law p ts rs h.1)

pub no-zeros : SubgoalsSucceed → ValidHaveNoZeros
no-zeros law p ts h = of-roots law p ts (all_roots p) h.derivations
