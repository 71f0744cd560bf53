-- The terms of the goals of all nodes ascend, where those that the program's region types write do.
use Rattle.std.proofs.Common.{◌≡◌, sym, subst, ℕ, zero, suc, ◌+◌, ◌<◌, inl, inr, arith, List, [], ◌∷◌, ◌++◌, length, map, flat_map, Option, Some, None}
use Rattle.std.specs.List.{AllByRecursion, AllZip, range_with_len}
use Rattle.std.proofs.lemmas.Grind.{flat_map-append}
use Rattle.std.proofs.lemmas.Option.{slice_get_cases}
use Rattle.cap_fm_spec.proofs.Lists.{each-left, each-right, each-join}
use Rattle.cap_prog.specs.Program.{PlainProgram}
use Rattle.cap_goal_spec.specs.States.{PlainGoal}
use Rattle.cap_goal_spec.specs.Choices.{PlainTree, node, PlainTrees, no_trees, tree}
use Rattle.cap_goal_spec.specs.Roots.{PlainUnit, region_unit, function_unit, region_roots, optional_roots, roots}
use Rattle.cap_rules.specs.Answers.{Subgoals}
use Rattle.cap_rules.specs.Valid.{Derives, AllDerive, RootDerives}
use Rattle.cap_rules_ascending.specs.Ascending.{GoalAscends, ProgramAscends}
use Rattle.cap_rules_ascending.specs.Laws.{SubgoalsAscend, RootAscends, RootsAscend}
use Rattle.cap_rules_nodes.specs.Nodes.{GoalNode, nodes_at, all_nodes_at, all_root_nodes, unit_nodes}
use Rattle.cap_kernel_nodes.specs.Laws.{UnitDerives}
use Rattle.cap_kernel_nodes.proofs.Leaving.{subgoals-left}

-- ---- the roots of one unit are among those of all

numbered-roots :
    {U : Type 0} (f : U → List (Option PlainGoal)) (unit : ℕ → U) (low count k n : ℕ) → k < count → n ≡ low + k →
    AllByRecursion RootAscends (flat_map f (map unit (range_with_len low count))) → AllByRecursion RootAscends (f (unit n))
numbered-roots f unit low zero k n l e h = absurd (omega (arith, l))
numbered-roots f unit low (suc count) zero n l e h =
    let q : low ≡ n = omega (arith, e) in
    subst (λ m. AllByRecursion RootAscends (f (unit m))) q
    (each-left RootAscends (f (unit low)) (flat_map f (map unit (range_with_len (low + 1) count))) h)
numbered-roots f unit low (suc count) (suc k) n l e h =
    numbered-roots f unit (low + 1) count k n (omega (arith, l)) (omega (arith, e))
    (each-right RootAscends (f (unit low)) (flat_map f (map unit (range_with_len (low + 1) count))) h)

unit-roots : RootsAscend → (p : PlainProgram) (u : PlainUnit) → ProgramAscends p → AllByRecursion RootAscends (roots p u)
unit-roots ascend p u a = by u
  where
    regions : List PlainUnit
    regions = map region_unit (range_with_len 0 (length p.regions))

    functions : List PlainUnit
    functions = map function_unit (range_with_len 0 (length p.functions))

    parts : AllByRecursion RootAscends (flat_map (roots p) regions ++ flat_map (roots p) functions)
    parts = subst (AllByRecursion RootAscends) (flat_map-append (roots p) regions functions) (ascend p a)

    by : (v : PlainUnit) → AllByRecursion RootAscends (roots p v)
    by (region_unit n) = elim (slice_get_cases p.regions n).1 [
      | inl k ↦ numbered-roots (roots p) region_unit 0 (length p.regions) n n k.1 (omega arith)
          (each-left RootAscends (flat_map (roots p) regions) (flat_map (roots p) functions) parts)
      | inr k ↦ subst (λ o. AllByRecursion RootAscends (region_roots o n)) (sym k.1) tt
    ]
    by (function_unit n) = elim (slice_get_cases p.functions n).1 [
      | inl k ↦ numbered-roots (roots p) function_unit 0 (length p.functions) n n k.1 (omega arith)
          (each-right RootAscends (flat_map (roots p) regions) (flat_map (roots p) functions) parts)
      | inr k ↦ subst (λ o. AllByRecursion RootAscends (optional_roots o n)) (sym k.1) tt
    ]

-- ---- the nodes of trees

abbrev pub NodeAscends : GoalNode → Type 0
NodeAscends n = GoalAscends n.goal

module _ (ascend : SubgoalsAscend) (p : PlainProgram) where
  mutual
    tree-ascends : (t : PlainTree) (d : ℕ) (g : PlainGoal) → GoalAscends g → Derives p d t g → AllByRecursion NodeAscends (nodes_at p t g)
    tree-ascends (node c ts) d g a (l, gs, s, k) = (
      a,
      subst (λ z. AllByRecursion NodeAscends (all_nodes_at p ts z)) (sym (subgoals-left p g c gs s)) (trees-ascend ts (suc d) gs (ascend p g c gs a s) k),
    )

    trees-ascend : (ts : PlainTrees) (d : ℕ) (gs : List PlainGoal) → AllByRecursion GoalAscends gs → AllDerive (Subgoals p) d ts gs → AllByRecursion NodeAscends (all_nodes_at p ts gs)
    trees-ascend no_trees d gs a k = tt
    trees-ascend (tree t ts) d [] a k = tt
    trees-ascend (tree t ts) d (g ∷ gs) a k =
        each-join NodeAscends (nodes_at p t g) (all_nodes_at p ts gs) (tree-ascends t d g a.0 k.0) (trees-ascend ts d gs a.1 k.1)

  roots-ascend : (ts : List (Option PlainTree)) (rs : List (Option PlainGoal)) → AllByRecursion RootAscends rs → AllZip (RootDerives p) ts rs → AllByRecursion NodeAscends (all_root_nodes p ts rs)
  roots-ascend [] rs a k = tt
  roots-ascend (t ∷ ts) [] a k = tt
  roots-ascend (None ∷ ts) (r ∷ rs) a k = roots-ascend ts rs a.1 k.1
  roots-ascend (Some t ∷ ts) (None ∷ rs) a k = roots-ascend ts rs a.1 k.1
  roots-ascend (Some t ∷ ts) (Some g ∷ rs) a k =
      each-join NodeAscends (nodes_at p t g) (all_root_nodes p ts rs) (tree-ascends t 1 g a.0 k.0) (roots-ascend ts rs a.1 k.1)

pub nodes-ascend :
    SubgoalsAscend → RootsAscend → (p : PlainProgram) (u : PlainUnit) (ts : List (Option PlainTree)) →
    ProgramAscends p → UnitDerives p u ts → AllByRecursion NodeAscends (unit_nodes p u ts)
unfolding unit_nodes
nodes-ascend ascend roots-do p u ts a h = roots-ascend ascend p ts (roots p u) (unit-roots roots-do p u a) h.trees
