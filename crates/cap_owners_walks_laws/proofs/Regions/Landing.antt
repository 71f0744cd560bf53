-- A choice that leaves one goal: a law about whichever nodes says which goal that is.
use Rattle.std.proofs.Common.{◌≡◌, ◌⊎◌, inl, inr, ◌≤◌, List, [], ◌∷◌, length, Option, Some, None, refl, arith, sym, subst}
use Rattle.std.specs.Prelude.{option_to_list}
use Rattle.cap_goal_spec.specs.States.{PlainState, PlainTask, PlainGoal, goal, goal_of, goals_of}
use Rattle.cap_goal_spec.specs.Choices.{PlainChoice, PlainTree, node, PlainTrees, no_trees, tree}
use Rattle.cap_rules.specs.Answers.{marks_of}
use Rattle.cap_rules.specs.Rules.{rule}
use Rattle.cap_rules_nodes.specs.Nodes.{goals_left}
use Rattle.cap_account_states.specs.Nodes.{NodePredicate, Comes, Children, Open}
use Rattle.cap_account_states.proofs.Attempts.{comes-more}
use Rattle.cap_account_states.proofs.Checked.{Checked}
use Rattle.cap_owners_walks_laws.proofs.Walks.Leading.{Left, node-leads}

-- a node at the only one of these goals, or at one of several
abbrev pub Lands : NodePredicate → List PlainGoal → NodePredicate
Lands N gs t s ts = N t s ts × ((gs ≡ goal s ts ∷ []) ⊎ (2 ≤ length gs))

module _ (N : NodePredicate) where
  several :
      (all : List PlainGoal) → 2 ≤ length all → (ks : PlainTrees) (gs : List PlainGoal) →
      Children N ks gs → Children (Lands N all) ks gs
  several all many no_trees [] h = tt
  several all many no_trees (g ∷ gs) h = absurd h
  several all many (tree t ts) [] h = absurd h
  several all many (tree t ts) (g ∷ gs) h = ((h.0, inr many), several all many ts gs h.1)

  pub all-land : (ks : PlainTrees) (gs : List PlainGoal) → Children N ks gs →
      Children (Lands N gs) ks gs
  all-land no_trees [] h = tt
  all-land no_trees (g ∷ gs) h = absurd h
  all-land (tree t ts) [] h = absurd h
  all-land (tree t no_trees) (g ∷ []) h = ((h.0, inl refl), tt)
  all-land (tree t (tree u us)) (g ∷ []) h = absurd h.1
  all-land (tree t ts) (g ∷ (g' ∷ gs)) h =
      several (g ∷ (g' ∷ gs)) (omega arith) (tree t ts) (g ∷ (g' ∷ gs)) h

  few : (t : PlainTree) (gs : List PlainGoal) → Children N (tree t no_trees) gs → 2 ≤ length gs → ⊥
  few t [] h many = h
  few t (g ∷ []) h many = omega (arith, many)
  few t (g ∷ (g' ∷ gs)) h many = h.1

  none : (gs : List PlainGoal) → Children N no_trees gs → gs ≡ []
  none [] h = refl
  none (g ∷ gs) h = absurd h

  lands-or :
      (gs : List PlainGoal) (ks : PlainTrees) (o : Option PlainGoal) → Children N ks gs →
      Children (Lands N gs) ks (option_to_list o) →
      (gs ≡ option_to_list o) × Children N ks (option_to_list o)
  lands-or gs no_trees None h k = (none gs h, tt)
  lands-or gs (tree t ts) None h k = absurd k
  lands-or gs no_trees (Some g) h k = absurd k
  lands-or gs (tree t no_trees) (Some g) h k = elim k.0.1 [
    | inl e ↦ (e, (k.0.0, tt))
    | inr many ↦ absurd (few t gs h many)
  ]
  lands-or gs (tree t (tree u us)) (Some g) h k = absurd k.1

  -- where the trees of these goals are those of one state's tasks, these are the goals
  pub lands :
      (gs : List PlainGoal) (ks : PlainTrees) (s : PlainState) (ts : List PlainTask) →
      Children N ks gs → Open (Lands N gs) ks s ts → (gs ≡ goals_of s ts) × Open N ks s ts
  lands gs ks s ts h k = lands-or gs ks (goal_of s ts) h k

-- what a node's choice comes to, of the goals that it leaves
pub node-lands :
    (p : Checked) (c : PlainChoice) (ks : PlainTrees) (s : PlainState) (ts : List PlainTask) →
    p.N (node c ks) s ts →
    Comes (rule p.program (goal s ts) c (marks_of c))
    (Children (Lands p.N (goals_left p.program (goal s ts) c)) ks)
node-lands p c ks s ts h =
    let all = goals_left p.program (goal s ts) c in
    comes-more (rule p.program (goal s ts) c (marks_of c)) (Left p c ks (goal s ts))
    (Children (Lands p.N all) ks)
    (λ gs k. subst (Children (Lands p.N all) ks) k.0
    (all-land p.N ks all (subst (Children p.N ks) (sym k.0) k.1)))
    (node-leads p c ks s ts h)
