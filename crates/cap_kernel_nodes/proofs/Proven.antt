-- At each node of valid trees the goal is kept, and the choice proves what it owes.
use Rattle.std.proofs.Common.{ℕ, suc, List, [], ◌∷◌, ◌++◌, Option, Some, None, sym, subst}
use Rattle.std.specs.Prelude.{flat_map}
use Rattle.std.specs.List.{AllByRecursion, AllZip}
use Rattle.cap_prog.specs.Program.{PlainProgram}
use Rattle.cap_prog.specs.WellFormed.{IsWellFormed}
use Rattle.cap_goal_spec.specs.States.{PlainGoal}
use Rattle.cap_goal_spec.specs.Choices.{PlainTree, node, PlainTrees, no_trees, tree}
use Rattle.cap_goal_spec.specs.Roots.{PlainUnit, roots, units, all_roots}
use Rattle.cap_rules.specs.Answers.{Subgoals}
use Rattle.cap_rules.specs.Valid.{Derives, AllDerive, RootDerives}
use Rattle.cap_rules_fits.specs.Kept.{IsKept, RootIsKept, RootsAreKept, SubgoalsAreKept}
use Rattle.cap_rules_marks.specs.Proven.{SubgoalsAreProven}
use Rattle.cap_rules_nodes.specs.Nodes.{nodes_at, all_nodes_at, all_root_nodes, unit_nodes, program_nodes}
use Rattle.cap_kernel_nodes.specs.Laws.{NodeIsProven, NodesAreProven, ProgramNodesAreProven}
use Rattle.cap_kernel_nodes.proofs.Leaving.{subgoals-left}

each-join : {X : Type 0} (P : X → Type 0) (xs ys : List X) → AllByRecursion P xs → AllByRecursion P ys → AllByRecursion P (xs ++ ys)
each-join P [] ys a b = b
each-join P (x ∷ xs) ys a b = (a.0, each-join P xs ys a.1 b)

module _ (kept : SubgoalsAreKept) (proven : SubgoalsAreProven) (p : PlainProgram) (w : IsWellFormed p) where
  mutual
    tree-proven : (t : PlainTree) (d : ℕ) (g : PlainGoal) → IsKept p g → Derives p d t g → AllByRecursion (NodeIsProven p) (nodes_at p t g)
    tree-proven (node c ts) d g k (l, gs, s, a) = (
      record { kept = k; proven = proven p g c gs k.fits.state.room.sorts s },
      subst (λ z. AllByRecursion (NodeIsProven p) (all_nodes_at p ts z)) (sym (subgoals-left p g c gs s)) (trees-proven ts (suc d) gs (kept p g c gs w k s) a),
    )

    trees-proven : (ts : PlainTrees) (d : ℕ) (gs : List PlainGoal) → AllByRecursion (IsKept p) gs → AllDerive (Subgoals p) d ts gs → AllByRecursion (NodeIsProven p) (all_nodes_at p ts gs)
    trees-proven no_trees d gs k a = tt
    trees-proven (tree t ts) d [] k a = tt
    trees-proven (tree t ts) d (g ∷ gs) k a =
        each-join (NodeIsProven p) (nodes_at p t g) (all_nodes_at p ts gs) (tree-proven t d g k.0 a.0) (trees-proven ts d gs k.1 a.1)

  roots-proven : (ts : List (Option PlainTree)) (rs : List (Option PlainGoal)) → AllByRecursion (RootIsKept p) rs → AllZip (RootDerives p) ts rs → AllByRecursion (NodeIsProven p) (all_root_nodes p ts rs)
  roots-proven [] rs k a = tt
  roots-proven (t ∷ ts) [] k a = tt
  roots-proven (None ∷ ts) (r ∷ rs) k a = roots-proven ts rs k.1 a.1
  roots-proven (Some t ∷ ts) (None ∷ rs) k a = roots-proven ts rs k.1 a.1
  roots-proven (Some t ∷ ts) (Some g ∷ rs) k a =
      each-join (NodeIsProven p) (nodes_at p t g) (all_root_nodes p ts rs) (tree-proven t 1 g k.0 a.0) (roots-proven ts rs k.1 a.1)

pub nodes-proven : RootsAreKept → SubgoalsAreKept → SubgoalsAreProven → NodesAreProven
unfolding unit_nodes
nodes-proven at kept proven p u ts w h = roots-proven kept proven p w ts (roots p u) (at p w u) h.trees

units-kept : RootsAreKept → (p : PlainProgram) → IsWellFormed p → (us : List PlainUnit) → AllByRecursion (RootIsKept p) (flat_map (roots p) us)
units-kept at p w [] = tt
units-kept at p w (u ∷ us) = each-join (RootIsKept p) (roots p u) (flat_map (roots p) us) (at p w u) (units-kept at p w us)

pub program-nodes-proven : RootsAreKept → SubgoalsAreKept → SubgoalsAreProven → ProgramNodesAreProven
unfolding program_nodes
program-nodes-proven at kept proven p ts w h = roots-proven kept proven p w ts (all_roots p) (units-kept at p w (units p)) h.derivations
