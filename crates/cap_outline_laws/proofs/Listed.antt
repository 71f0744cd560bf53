-- Valid derivations whose nodes are among those of a program.
use Rattle.std.proofs.Common.{◌≡◌, inl, inr, List, [], ◌∷◌, ◌++◌, refl, sym, ap, subst, Option, Some, None}
use Rattle.std.specs.Prelude.{option_to_list, unwrap_or, IsSomeAnd}
use Rattle.std.specs.List.{AllZip}
use Rattle.cap_prog.specs.Program.{PlainProgram}
use Rattle.cap_goal_spec.specs.States.{PlainState, PlainTask, PlainGoal, goal}
use Rattle.cap_goal_spec.specs.Choices.{PlainChoice, PlainTree, node, PlainTrees, no_trees, tree}
use Rattle.cap_goal_spec.specs.Roots.{all_roots}
use Rattle.cap_rules.specs.Answers.{marks_of}
use Rattle.cap_rules.specs.Rules.{rule}
use Rattle.cap_rules.specs.Valid.{RootDerives, Valid}
use Rattle.cap_rules_nodes.specs.Nodes.{GoalNode, goals_left, nodes_at, all_nodes_at, root_nodes, all_root_nodes, program_nodes}
use Rattle.cap_account_resources.proofs.Lists.{Among, among-left, among-right}
use Rattle.cap_account_states.specs.Nodes.{NodePredicate, Children, IsNode, Deriving}
use Rattle.cap_account_states.proofs.Checked.{Checked, deriving-step}
use Rattle.cap_account_steps.proofs.Bundles.{RootsHave}

abbrev pub AreAmong : List GoalNode → List GoalNode → Type 0
AreAmong ns all = (n : GoalNode) → Among n ns → Among n all

-- the tree is a valid derivation of the goal, and its nodes are among these
abbrev pub Listed : PlainProgram → List GoalNode → NodePredicate
Listed p all d s tasks = Deriving p d s tasks × AreAmong (nodes_at p d (goal s tasks)) all

module _ (p : PlainProgram) (all : List GoalNode) where
  children-listed :
      (ks : PlainTrees) (gs : List PlainGoal) → Children (Deriving p) ks gs →
      AreAmong (all_nodes_at p ks gs) all → Children (Listed p all) ks gs
  children-listed no_trees [] h f = tt
  children-listed no_trees (g ∷ gs) h f = absurd h
  children-listed (tree t ts) [] h f = absurd h
  children-listed (tree t ts) (g ∷ gs) h f = (
    (h.0, λ n m. f n (among-left n (nodes_at p t g) (all_nodes_at p ts gs) m)),
    children-listed ts gs h.1 (λ n m. f n (among-right n (nodes_at p t g) (all_nodes_at p ts gs) m)),
  )

  pub listed-step :
      (d : PlainTree) (s : PlainState) (tasks : List PlainTask) → Listed p all d s tasks →
      IsNode p (Listed p all) d s tasks
  unfolding goals_left
  listed-step (node c ks) s tasks h =
      let k = deriving-step p (node c ks) s tasks h.0 in
      (k.0, by (rule p (goal s tasks) c (marks_of c)).value refl k.1)
    where
      by :
          (o : Option (List PlainGoal)) → (rule p (goal s tasks) c (marks_of c)).value ≡ o →
          IsSomeAnd o (Children (Deriving p) ks) → IsSomeAnd o (Children (Listed p all) ks)
      by None e m = m
      by (Some gs) e m =
          children-listed ks gs m
          (λ n q. h.1 n (inr (subst (λ l. Among n (all_nodes_at p ks l))
          (sym (ap (λ o. unwrap_or o []) e)) q)))

  -- ---- roots

  root-listed :
      (t : Option PlainTree) (g : Option PlainGoal) → RootDerives p t g →
      AreAmong (root_nodes p t g) all →
      (ks : PlainTrees) × Children (Listed p all) ks (option_to_list g)
  root-listed None None h f = (no_trees, tt)
  root-listed None (Some g) h f = absurd h
  root-listed (Some t) None h f = absurd h
  root-listed (Some t) (Some g) h f = (tree t no_trees, (((1, h), f), tt))

  along-listed :
      (ts : List (Option PlainTree)) (gs : List (Option PlainGoal)) →
      AllZip (RootDerives p) ts gs → AreAmong (all_root_nodes p ts gs) all →
      (g : Option PlainGoal) → Among g gs →
      (ks : PlainTrees) × Children (Listed p all) ks (option_to_list g)
  along-listed [] [] h f g k = absurd k
  along-listed [] (z ∷ gs) h f g k = absurd h
  along-listed (t ∷ ts) [] h f g k = absurd h
  along-listed (t ∷ ts) (z ∷ gs) h f g (inl e) =
      subst (λ y. (ks : PlainTrees) × Children (Listed p all) ks (option_to_list y)) e
      (root-listed t z h.0 (λ n m. f n (among-left n (root_nodes p t z) (all_root_nodes p ts gs) m)))
  along-listed (t ∷ ts) (z ∷ gs) h f g (inr k) =
      along-listed ts gs h.1
      (λ n m. f n (among-right n (root_nodes p t z) (all_root_nodes p ts gs) m)) g k

-- ---- all of a program

abbrev pub listed : PlainProgram → List GoalNode → Checked
listed p all = record {
  program = p;
  N = Listed p all;
  step = λ {d} {s} {ts} h. listed-step p all d s ts h;
}

pub roots-listed :
    (p : PlainProgram) (trees : List (Option PlainTree)) → Valid p trees →
    RootsHave p (Listed p (program_nodes p trees))
unfolding program_nodes
roots-listed p trees valid =
    along-listed p (program_nodes p trees) trees (all_roots p) valid.derivations (λ n m. m)

-- the first node of a listed tree
pub first-listed :
    (p : PlainProgram) (all : List GoalNode) (d : PlainTree) (s : PlainState)
    (tasks : List PlainTask) → Listed p all d s tasks →
    (c : PlainChoice) × Among (record { goal = goal s tasks; choice = c }) all
first-listed p all (node c ks) s tasks h =
    (c, h.1 (record { goal = goal s tasks; choice = c }) (inl refl))
