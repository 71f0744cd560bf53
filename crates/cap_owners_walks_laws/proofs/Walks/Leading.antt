-- A walk over one node: to which goal the node's choice leads, and that the walk stops there.
use Rattle.std.proofs.Common.{◌≡◌, ℕ, false, List, [], ◌∷◌, Option, Some, None, refl, ap, ◌∙◌}
use Rattle.std.specs.Prelude.{unwrap_or, IsSomeAnd}
use Rattle.cap_lin.specs.Linear.{Linear}
use Rattle.cap_prog.specs.declared.assertion.Comp.{Comp}
use Rattle.cap_farkas.specs.declared.cert.Cert.{Cert}
use Rattle.cap_prog.specs.Program.{Label, set, check, Block, first}
use Rattle.cap_goal_spec.specs.States.{PlainState, Home, PlainTask, to_run, PlainGoal, goal}
use Rattle.cap_goal_spec.specs.Choices.{PlainChoice, by_set, by_assert, PlainTree, node, PlainTrees, no_trees, tree}
use Rattle.cap_goal_spec.specs.Terms.{term_over}
use Rattle.cap_rules.specs.Answers.{marks_of}
use Rattle.cap_rules.specs.Attempts.{Attempt, ◌>>=◌, prove}
use Rattle.cap_rules.specs.Making.{in_store, with_local}
use Rattle.cap_rules.specs.Rules.{leaves, rule}
use Rattle.cap_rules_nodes.specs.Nodes.{goals_left}
use Rattle.cap_machine.specs.declared.event.Event.{Event}
use Rattle.cap_account_states.specs.Nodes.{Comes, Children}
use Rattle.cap_account_states.proofs.Attempts.{store_row, after-here, after-prove, after-row-here}
use Rattle.cap_account_states.proofs.Checked.{Checked, lone-child}
use Rattle.cap_owners_spec.specs.Traced.{traced}
use Rattle.cap_owners_spec.specs.Walks.{Walk, descends, Interpreting, stands, walk, walk_below}

-- ---- what a choice leads to

-- beside what holds of the value, that it is the attempt's
pub comes-itself :
    {A : Type 0} (o : Attempt A) (P : A → Type 0) → Comes o P →
    Comes o (λ x. (o.value ≡ Some x) × P x)
comes-itself {A} o P h = (h.0, by o.value h.1)
  where
    by : (m : Option A) → IsSomeAnd m P → IsSomeAnd m (λ x. (m ≡ Some x) × P x)
    by None k = k
    by (Some x) k = (refl, k)

module _ (p : Checked) where
  -- the goals are those that the choice leaves, and each has its tree
  abbrev pub Left : PlainChoice → PlainTrees → PlainGoal → List PlainGoal → Type 0
  Left c ks g gs = (goals_left p.program g c ≡ gs) × Children p.N ks gs

  pub node-leads :
      (c : PlainChoice) (ks : PlainTrees) (s : PlainState) (ts : List PlainTask) →
      p.N (node c ks) s ts → Comes (rule p.program (goal s ts) c (marks_of c)) (Left c ks (goal s ts))
  unfolding goals_left
  node-leads c ks s ts h =
      let o = rule p.program (goal s ts) c (marks_of c) in
      let k = comes-itself o (Children p.N ks) (p.step h) in
      (k.0, by o.value k.1)
    where
      by :
          (m : Option (List PlainGoal)) →
          IsSomeAnd m (λ gs. ((rule p.program (goal s ts) c (marks_of c)).value ≡ Some gs)
          × Children p.N ks gs) →
          IsSomeAnd m (Left c ks (goal s ts))
      by None k = k
      by (Some gs) k = (ap (λ (n : Option (List PlainGoal)). unwrap_or n []) k.0, k.1)

  -- ---- the walk

  module _ (enter : Interpreting) where
    -- it stops at statements, where no step is to come
    pub stops-running :
        (t : PlainTree) (s : PlainState) (h : Home) (b : Block) (ts : List PlainTask) (w : Walk) →
        walk enter p.program false t (goal s (to_run h b ∷ ts)) (record w { events = [] })
        ≡ traced (stands (record { goal = goal s (to_run h b ∷ ts); tree = t })
        (record w { events = [] }))
    stops-running (node c ks) s h b ts w = refl

    -- below a node whose choice leaves one goal, it goes to that
    pub goes-below :
        (c : PlainChoice) (ks : PlainTrees) (g : PlainGoal) (s : PlainState) (ts : List PlainTask)
        (d : PlainTree) (w : Walk) → goals_left p.program g c ≡ goal s ts ∷ [] →
        ks ≡ tree d no_trees →
        walk_below enter p.program false ks (goals_left p.program g c)
        (traced (descends (Some 0) w))
        ≡ walk enter p.program false d (goal s ts) w
    goes-below c ks g s ts d w e k =
        (λ i. walk_below enter p.program false (k i) (e i) (traced (descends (Some 0) w)))

  -- a step leads from a node at statements to another one, where the walk stops
  pub record LeadsOn (t : PlainTree) (g : PlainGoal) (event : Event) (s : PlainState) (h : Home)
      (b : Block) : Type 0 where
    pub tree_there : PlainTree
    pub valid : p.N tree_there s (to_run h b ∷ [])
    pub walks :
        (enter : Interpreting) (w : Walk) →
        walk enter p.program false t g (record w { events = event ∷ [] })
        ≡ traced (stands (record { goal = goal s (to_run h b ∷ []); tree = tree_there })
        (record w { events = [] }))

  pub set-leads :
      (ks : PlainTrees) (s : PlainState) (h : Home) (l : Label) (x : ℕ) (t : Linear) (b : Block)
      (event : Event) → p.N (node by_set ks) s (to_run h (first l (set x t) b) ∷ []) →
      LeadsOn (node by_set ks) (goal s (to_run h (first l (set x t) b) ∷ [])) event
      (with_local s x (term_over (in_store s) t)) h b
  set-leads ks s h l x t b event n =
      let g = goal s (to_run h (first l (set x t) b) ∷ []) in
      let s1 = with_local s x (term_over (in_store s) t) in
      let q = (after-here s t (λ u. leaves (with_local s x u) (to_run h b ∷ []))
      (Left by_set ks g) (node-leads by_set ks s (to_run h (first l (set x t) b) ∷ []) n)).1 in
      let d = lone-child p.N ks s1 (to_run h b ∷ []) q.1 in
      record {
        tree_there = d.0;
        valid = d.1;
        walks = λ enter w.
            goes-below enter by_set ks g s1 (to_run h b ∷ []) d.0 (record w { events = [] }) q.0 d.2
            ∙ stops-running enter d.0 s1 h b [] w;
      }

  pub check-leads :
      (ks : PlainTrees) (cs : List Cert) (s : PlainState) (h : Home) (l : Label) (c : Comp)
      (b : Block) (event : Event) →
      p.N (node (by_assert cs) ks) s (to_run h (first l (check c) b) ∷ []) →
      LeadsOn (node (by_assert cs) ks) (goal s (to_run h (first l (check c) b) ∷ [])) event s h b
  check-leads ks cs s h l c b event n =
      let g = goal s (to_run h (first l (check c) b) ∷ []) in
      let P = Left (by_assert cs) ks g in
      let asked = after-row-here s c.op c
      (λ q. prove s.rows q >>= λ _. leaves s (to_run h b ∷ [])) P
      (node-leads (by_assert cs) ks s (to_run h (first l (check c) b) ∷ []) n) in
      let q = (after-prove s.rows (store_row s c.op c) (λ _. leaves s (to_run h b ∷ [])) P asked).1.1 in
      let d = lone-child p.N ks s (to_run h b ∷ []) q.1 in
      record {
        tree_there = d.0;
        valid = d.1;
        walks = λ enter w.
            goes-below enter (by_assert cs) ks g s (to_run h b ∷ []) d.0 (record w { events = [] })
            q.0 d.2
            ∙ stops-running enter d.0 s h b [] w;
      }
