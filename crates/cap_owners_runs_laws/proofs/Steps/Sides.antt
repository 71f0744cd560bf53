-- A walk over a comparison, or over an allocation: to which node it leads, and that the walk stops
-- there.
use Rattle.std.proofs.Common.{◌≡◌, ℕ, ℤ, Bool, true, false, if◌then◌else◌, [], ◌∷◌, ◌++◌, refl, ◌∙◌, Some}
use Rattle.cap_lin.specs.declared.row.Op.{Op}
use Rattle.cap_prog.specs.declared.assertion.Comp.{Comp}
use Rattle.cap_prog.specs.Program.{PlainAssertion, Label, alloc, branch, loop, Block, first, append}
use Rattle.cap_goal_spec.specs.States.{PlainState, Home, to_run, to_turn, PlainGoal, goal}
use Rattle.cap_goal_spec.specs.Choices.{PlainChoice, by_alloc, by_if, by_turn, PlainTree, node, PlainTrees, no_trees, tree}
use Rattle.cap_rules.specs.Making.{opposite}
use Rattle.cap_rules_nodes.specs.Nodes.{goals_left}
use Rattle.cap_machine.specs.declared.event.Event.TheVariants.{Alloc, Branch}
use Rattle.cap_machine_accounts.specs.Assertions.{a_number}
use Rattle.cap_account_states.specs.Nodes.{NodePredicate, Children}
use Rattle.cap_account_states.proofs.Attempts.{store_row, row_added}
use Rattle.cap_account_states.proofs.Checked.{Checked, lone-child}
use Rattle.cap_account_steps.proofs.Local.{comes-branches}
use Rattle.cap_account_steps.proofs.Allocating.{allocated, comes-allocated}
use Rattle.cap_owners_spec.specs.Traced.{traced}
use Rattle.cap_owners_spec.specs.Walks.{Walk, descends, taken_side, Interpreting, stands, walk, walk_below}
use Rattle.cap_owners_walks_laws.proofs.Walks.Leading.{Left, node-leads, stops-running, goes-below, LeadsOn}

-- ---- the trees of two goals

pub record TwoTrees (N : NodePredicate) (ks : PlainTrees) (g h : PlainGoal) : Type 0 where
  pub met : PlainTree
  pub unmet : PlainTree
  pub met_valid : N met g.state g.tasks
  pub unmet_valid : N unmet h.state h.tasks
  pub are : ks ≡ tree met (tree unmet no_trees)

pub two-children :
    (N : NodePredicate) (ks : PlainTrees) (g h : PlainGoal) → Children N ks (g ∷ h ∷ []) →
    TwoTrees N ks g h
two-children N no_trees g h c = absurd c
two-children N (tree d no_trees) g h c = absurd c.1
two-children N (tree d (tree e no_trees)) g h c =
    record { met = d; unmet = e; met_valid = c.0; unmet_valid = c.1.0; are = refl }
two-children N (tree d (tree e (tree x xs))) g h c = absurd c.1.1

-- ---- comparisons

-- how the two sides are related where this is so
abbrev pub side_of : Op → Bool → Op
side_of op true = op
side_of op false = opposite op

module _ (p : Checked) where
  -- below a node whose choice leaves two goals, it goes to the one or to the other
  side-below :
      (enter : Interpreting) (c : PlainChoice) (ks : PlainTrees) (g m n : PlainGoal)
      (d e : PlainTree) (w : Walk) → goals_left p.program g c ≡ m ∷ n ∷ [] →
      ks ≡ tree d (tree e no_trees) → (taken : Bool) →
      walk_below enter p.program false ks (goals_left p.program g c)
      (traced (descends (Some (taken_side taken)) w))
      ≡ (if taken then walk enter p.program false d m w else walk enter p.program false e n w)
  side-below enter c ks g m n d e w l k true =
      (λ i. walk_below enter p.program false (k i) (l i) (traced (descends (Some 0) w)))
  side-below enter c ks g m n d e w l k false =
      (λ i. walk_below enter p.program false (k i) (l i) (traced (descends (Some 1) w)))

  -- from a goal whose choice leaves a comparison's sides, each before statements
  module _ (c : PlainChoice) (ks : PlainTrees) (g : PlainGoal) (s : PlainState) (h : Home)
      (x : Comp) (a b : Block)
      (left : Left p c ks g
      (goal (row_added s (store_row s x.op x)) (to_run h a ∷ [])
      ∷ goal (row_added s (store_row s (opposite x.op) x)) (to_run h b ∷ []) ∷ [])) where
    abbrev met : PlainGoal
    met = goal (row_added s (store_row s x.op x)) (to_run h a ∷ [])

    abbrev unmet : PlainGoal
    unmet = goal (row_added s (store_row s (opposite x.op) x)) (to_run h b ∷ [])

    side-leads :
        (t : PlainTree) (taken : Bool) →
        ((enter : Interpreting) (w : Walk) →
        walk enter p.program false t g (record w { events = Branch taken ∷ [] })
        ≡ walk_below enter p.program false ks (goals_left p.program g c)
        (traced (descends (Some (taken_side taken)) (record w { events = [] })))) →
        LeadsOn p t g (Branch taken) (row_added s (store_row s (side_of x.op taken) x)) h
        (if taken then a else b)
    side-leads t true passes =
        let d = two-children p.N ks met unmet left.1 in
        record {
          tree_there = d.met;
          valid = d.met_valid;
          walks = λ enter w.
              passes enter w
              ∙ side-below enter c ks g met unmet d.met d.unmet (record w { events = [] }) left.0
              d.are true
              ∙ stops-running p enter d.met met.state h a [] w;
        }
    side-leads t false passes =
        let d = two-children p.N ks met unmet left.1 in
        record {
          tree_there = d.unmet;
          valid = d.unmet_valid;
          walks = λ enter w.
              passes enter w
              ∙ side-below enter c ks g met unmet d.met d.unmet (record w { events = [] }) left.0
              d.are false
              ∙ stops-running p enter d.unmet unmet.state h b [] w;
        }

  pub branch-leads :
      (ks : PlainTrees) (s : PlainState) (h : Home) (l : Label) (c : Comp) (a b rest : Block)
      (taken : Bool) → p.N (node by_if ks) s (to_run h (first l (branch c a b) rest) ∷ []) →
      LeadsOn p (node by_if ks) (goal s (to_run h (first l (branch c a b) rest) ∷ []))
      (Branch taken) (row_added s (store_row s (side_of c.op taken) c)) h
      (if taken then append a rest else append b rest)
  branch-leads ks s h l c a b rest taken n =
      let ts = to_run h (first l (branch c a b) rest) ∷ [] in
      side-leads by_if ks (goal s ts) s h c (append a rest) (append b rest)
      (comes-branches s c (to_run h (append a rest) ∷ []) (to_run h (append b rest) ∷ [])
      (Left p by_if ks (goal s ts)) (node-leads p by_if ks s ts n)) (node by_if ks) taken
      (λ enter w. refl)

  -- a loop's turn, or what comes behind the loop
  pub turn-leads :
      (ks : PlainTrees) (s : PlainState) (h : Home) (l : Label) (c : Comp) (i : PlainAssertion)
      (a rest : Block) (taken : Bool) →
      p.N (node by_turn ks) s (to_turn h (first l (loop c i a) rest) ∷ []) →
      LeadsOn p (node by_turn ks) (goal s (to_turn h (first l (loop c i a) rest) ∷ []))
      (Branch taken) (row_added s (store_row s (side_of c.op taken) c)) h
      (if taken then append a (first l (loop c i a) rest) else rest)
  turn-leads ks s h l c i a rest taken n =
      let again = append a (first l (loop c i a) rest) in
      let ts = to_turn h (first l (loop c i a) rest) ∷ [] in
      side-leads by_turn ks (goal s ts) s h c again rest
      (comes-branches s c (to_run h again ∷ []) (to_run h rest ∷ []) (Left p by_turn ks (goal s ts))
      (node-leads p by_turn ks s ts n)) (node by_turn ks) taken (λ enter w. refl)

  -- ---- allocations

  -- the base is the value of the variable that is new
  pub record LeadsFresh (t : PlainTree) (g : PlainGoal) (base : ℤ) (s : PlainState) (h : Home)
      (b : Block) : Type 0 where
    pub tree_there : PlainTree
    pub valid : p.N tree_there s (to_run h b ∷ [])
    pub walks :
        (enter : Interpreting) (w : Walk) →
        walk enter p.program false t g (record w { events = Alloc base ∷ [] })
        ≡ traced (stands (record { goal = goal s (to_run h b ∷ []); tree = tree_there })
        (record w { values = w.values ++ a_number base ∷ []; events = [] }))

  pub alloc-leads :
      (ks : PlainTrees) (s : PlainState) (h : Home) (l : Label) (x n : ℕ) (b : Block) (base : ℤ) →
      p.N (node by_alloc ks) s (to_run h (first l (alloc x n) b) ∷ []) →
      LeadsFresh (node by_alloc ks) (goal s (to_run h (first l (alloc x n) b) ∷ [])) base
      (allocated x n s) h b
  alloc-leads ks s h l x n b base v =
      let g = goal s (to_run h (first l (alloc x n) b) ∷ []) in
      let q = comes-allocated x n s (to_run h b ∷ []) (Left p by_alloc ks g)
      (node-leads p by_alloc ks s (to_run h (first l (alloc x n) b) ∷ []) v) in
      let d = lone-child p.N ks (allocated x n s) (to_run h b ∷ []) q.1 in
      record {
        tree_there = d.0;
        valid = d.1;
        walks = λ enter w.
            let u = record w { values = w.values ++ a_number base ∷ []; events = [] } in
            goes-below p enter by_alloc ks g (allocated x n s) (to_run h b ∷ []) d.0 u q.0 d.2
            ∙ stops-running p enter d.0 (allocated x n s) h b [] u;
      }
