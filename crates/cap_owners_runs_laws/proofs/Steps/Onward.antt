-- One statement: from the node at which a frame sits to the one at which it sits then, where the
-- frame's walk stops.
use Rattle.std.proofs.Common.{◌≡◌, ℕ, zero, suc, ◌+◌, ◌<◌, ℤ, pos, ◌+ℤ◌, ◌≤ℤ◌, Bool, true, false, if◌then◌else◌, List, [], ◌∷◌, ◌++◌, length, Option, inl, inr, refl, sym, ap, ◌∙◌, subst, arith}
use Rattle.std.proofs.lemmas.Slice.Zip.{AllZip-long}
use Rattle.std.specs.List.{AllZip}
use Rattle.cap_lin.specs.Linear.{Linear}
use Rattle.cap_lin.specs.Values.{Valuation, value}
use Rattle.cap_lin.specs.Solves.{Relates}
use Rattle.cap_lin.specs.declared.row.Sort.TheVariants.{Int}
use Rattle.cap_prog.specs.declared.assertion.Comp.{Comp}
use Rattle.cap_prog.specs.Program.{PlainAssertion, Label, set, alloc, branch, check, loop, Block, first, append, PlainFunction}
use Rattle.cap_prog.specs.Scopes.{body_scope, CompFits}
use Rattle.cap_goal_spec.specs.States.{Home, PlainTask, to_run, to_turn, PlainGoal, goal}
use Rattle.cap_goal_spec.specs.Choices.{PlainTree, node, by_absurd, by_set, by_alloc, by_assert, by_if, by_turn}
use Rattle.cap_rules.specs.Making.{fresh}
use Rattle.cap_machine.specs.declared.event.Event.{Event}
use Rattle.cap_machine.specs.declared.event.Event.TheVariants.{Alloc, Branch}
use Rattle.cap_machine.specs.Machine.{Frame, value_in, holds, with_rest, with_value}
use Rattle.cap_machine_accounts.specs.Assertions.{NameValue, a_number}
use Rattle.cap_account_resources.specs.Parts.{Table}
use Rattle.cap_account_resources.proofs.Lists.{push-length}
use Rattle.cap_account_resources.proofs.Order.{met-relates, unmet-relates}
use Rattle.cap_account_resources.proofs.Heaps.{fresh_cells}
use Rattle.cap_account_resources.proofs.Stocks.{Stock, no_guards, both}
use Rattle.cap_account_states.proofs.Alike.{Alike, alike-less}
use Rattle.cap_account_states.proofs.Attempts.{store_row, row_added}
use Rattle.cap_account_states.proofs.Checked.{Checked}
use Rattle.cap_account_states.proofs.Meets.{Old}
use Rattle.cap_account_assertions.proofs.Named.{set_to}
use Rattle.cap_account_steps.proofs.Stores.{running}
use Rattle.cap_account_steps.proofs.Cells.{new_cells, address-is}
use Rattle.cap_account_steps.proofs.Frames.{Node, Sits}
use Rattle.cap_account_steps.proofs.Local.{given-up, passes-on, assigned, chosen}
use Rattle.cap_account_steps.proofs.Allocating.{allocated, is-base, sits-allocated}
use Rattle.cap_owners_spec.specs.Traced.{Traced, traced, valuation}
use Rattle.cap_owners_spec.specs.Track.{Place, TrackedRegion}
use Rattle.cap_owners_spec.specs.Walks.{Walk, Interpreting, Halt, stands, walk, walk_from}
use Rattle.cap_owners_spec.specs.Steps.{interpreted}
use Rattle.cap_owners_laws.specs.Owned.{IsTold}
use Rattle.cap_owners_walks_laws.proofs.Values.Numbers.{valuation-number}
use Rattle.cap_owners_walks_laws.proofs.Values.More.{FitsSort, sorted-more, number-more}
use Rattle.cap_owners_walks_laws.proofs.Walks.Passing.{more}
use Rattle.cap_owners_walks_laws.proofs.Walks.Leading.{LeadsOn, set-leads, check-leads}
use Rattle.cap_owners_runs_laws.proofs.Tracks.Tied.{StopsSo, IsTidy, derivation, IsAtNode}
use Rattle.cap_owners_walks_laws.proofs.Parts.Held.{IsOf}
use Rattle.cap_owners_walks_laws.proofs.Parts.Putting.{IsCellAt}
use Rattle.cap_owners_runs_laws.proofs.Steps.Sides.{side_of, branch-leads, turn-leads, alloc-leads}

-- ---- cells that are new

pub cell-behind :
    (v : Valuation) (a : ℤ) (cs ds : List (Linear × Linear)) → IsCellAt v a ds →
    IsCellAt v a (cs ++ ds)
cell-behind v a [] ds h = h
cell-behind v a (c ∷ cs) ds h = inr (cell-behind v a cs ds h)

-- from number j on
new-from :
    (v : Valuation) (u : Linear) (j i m : ℕ) → i < m →
    IsCellAt v (value v.whole u +ℤ pos (j + i)) (new_cells u j m)
new-from v u j i zero h = absurd (omega (arith, h))
new-from v u j zero (suc m) h =
    let e : j ≡ j + 0 = omega arith in
    inl (address-is v u j ∙ ap (λ k. value v.whole u +ℤ pos k) e)
new-from v u j (suc i) (suc m) h =
    let e : suc j + i ≡ j + suc i = omega arith in
    inr (subst (λ k. IsCellAt v (value v.whole u +ℤ pos k) (new_cells u (suc j) m)) e
    (new-from v u (suc j) i m (omega (arith, h))))

new-at :
    (v : Valuation) (u : Linear) (i m : ℕ) → i < m →
    IsCellAt v (value v.whole u +ℤ pos i) (new_cells u 0 m)
new-at v u i m h =
    let e : 0 + i ≡ i = omega arith in
    subst (λ k. IsCellAt v (value v.whole u +ℤ pos k) (new_cells u 0 m)) e (new-from v u 0 i m h)

-- ---- statements

module _ (p : Checked) (trees : List (Option PlainTree)) (U : Table) (fn : PlainFunction)
    (fixed : List NameValue) where
  abbrev enter : Interpreting
  enter = interpreted (derivation p trees)

  -- By this step the frame goes on from a node: it sits at a node again, and from where a walk
  -- stopped at the first it goes to the second, and stops.
  pub record LedOn (event : Event) (part later : Stock) (f g : Frame)
      (tasks : Home → List PlainTask) (d : PlainTree) (n : Node p part U fn fixed f tasks d)
      : Type 0 where
    pub sits : Sits p later U fn fixed g
    pub walks :
        (rs : List TrackedRegion) (q : Place) (w : Walk) → q.tree ≡ d →
        q.goal ≡ goal n.state (tasks n.home) → Alike (Old n.state) n.v (valuation w.values) →
        IsTidy rs n.state w →
        IsTold (StopsSo (IsAtNode p trees rs later U fn fixed g sits))
        (walk_from (interpreted (derivation p trees)) p.program false q (more w (event ∷ [])))

  -- a tidy walk goes where the node does
  from-there :
      (event : Event) (d : PlainTree) (m : PlainGoal) (o : Walk → Traced Halt) → ((w : Walk) →
      walk enter p.program false d m (record w { events = event ∷ [] }) ≡ o w) → (q : Place)
      (w : Walk) → q.tree ≡ d → q.goal ≡ m → w.events ≡ [] →
      walk_from enter p.program false q (more w (event ∷ [])) ≡ o w
  from-there event d m o goes q w t g e =
      (λ i. walk enter p.program false (t i) (g i) (record w { events = e i ++ event ∷ [] }))
      ∙ goes w

  -- where neither values nor variables change
  led :
      (event : Event) (part : Stock) (f g : Frame) (tasks : Home → List PlainTask) (d : PlainTree)
      (n : Node p part U fn fixed f tasks d) (r : Sits p part U fn fixed g) →
      (lead : LeadsOn p d (goal n.state (tasks n.home)) event r.at_node.state r.at_node.home
      g.rest) →
      r.tree ≡ lead.tree_there → r.at_node.state.sorts ≡ n.state.sorts → r.at_node.v ≡ n.v →
      LedOn event part part f g tasks d n
  led event part f g tasks d n r lead t o v = record {
    sits = r;
    walks = λ rs q w is_tree is_goal alike tidy.
        subst (IsTold (StopsSo (IsAtNode p trees rs part U fn fixed g r)))
        (sym (from-there event d (goal n.state (tasks n.home))
        (λ w. traced (stands (record {
          goal = goal r.at_node.state (running g.rest r.at_node.home);
          tree = lead.tree_there;
        })
        (record w { events = [] }))) (lead.walks enter) q w is_tree is_goal tidy.events))
        (record {
          tree = sym t;
          goal_is = refl;
          alike =
              subst (λ ss. Alike (λ x. x < length ss) r.at_node.v (valuation w.values)) (sym o)
              (subst (λ u. Alike (Old n.state) u (valuation w.values)) (sym v) alike);
          tidy = record {
            sorted = subst (λ ss. AllZip FitsSort ss w.values) (sym o) tidy.sorted;
            regions = tidy.regions;
            next = tidy.next;
            events = refl;
          };
        });
  }

  module _ (part : Stock) (f : Frame) (l : Label) (b : Block) where
    pub set-on :
        (event : Event) (x : ℕ) (t : Linear) (d : PlainTree) →
        (n : Node p part U fn fixed (with_rest f (first l (set x t) b))
        (running (first l (set x t) b)) d) →
        LedOn event part part (with_rest f (first l (set x t) b))
        (with_value (with_rest f b) x (value_in f.store t)) (running (first l (set x t) b)) d n
    set-on event x t (node (by_absurd c) ks) n =
        given-up p part U fn fixed (with_rest f (first l (set x t) b))
        (λ h. to_run h (first l (set x t) b)) c ks n
    set-on event x t (node by_set ks) n =
        let r = first l (set x t) b in
        let lead = set-leads p ks n.state n.home l x t b event n.valid in
        led event part (with_rest f r) (with_value (with_rest f b) x (value_in f.store t))
        (running r) (node by_set ks) n
        (assigned p part U fn fixed (with_rest f r) (running r) (node by_set ks) lead.tree_there b
        x t n lead.valid).sits lead refl refl refl
    set-on event x t d n = absurd (p.step n.valid).1

    pub check-on :
        (event : Event) (c : Comp) (d : PlainTree) →
        (n : Node p part U fn fixed (with_rest f (first l (check c) b))
        (running (first l (check c) b)) d) →
        LedOn event part part (with_rest f (first l (check c) b)) (with_rest f b)
        (running (first l (check c) b)) d n
    check-on event c (node (by_absurd u) ks) n =
        given-up p part U fn fixed (with_rest f (first l (check c) b))
        (λ h. to_run h (first l (check c) b)) u ks n
    check-on event c (node (by_assert cs) ks) n =
        let r = first l (check c) b in
        let lead = check-leads p ks cs n.state n.home l c b event n.valid in
        led event part (with_rest f r) (with_rest f b) (running r) (node (by_assert cs) ks) n
        (passes-on p part U fn fixed (with_rest f r) (running r) (node (by_assert cs) ks)
        lead.tree_there b n lead.valid).sits lead refl refl refl
    check-on event c d n = absurd (p.step n.valid).1

  -- ---- comparisons

  -- how a comparison's sides are related by the store
  related :
      (store : List ℤ) (c : Comp) (taken : Bool) → holds store c ≡ taken →
      Relates (side_of c.op taken) (value_in store c.left) (value_in store c.right)
  related store c true e = met-relates c.op (value_in store c.left) (value_in store c.right) e
  related store c false e = unmet-relates c.op (value_in store c.left) (value_in store c.right) e

  -- and the state has what it had
  pub record LedSame (event : Event) (part : Stock) (f g : Frame) (tasks : Home → List PlainTask)
      (d : PlainTree) (n : Node p part U fn fixed f tasks d) : Type 0 where
    pub led_on : LedOn event part part f g tasks d n
    pub same :
        (has : Stock) → IsOf p.program n.v n.state has →
        IsOf p.program led_on.sits.at_node.v led_on.sits.at_node.state has

  -- the frame goes on where the store leads it
  sided :
      (part : Stock) (f : Frame) (tasks : Home → List PlainTask) (d : PlainTree) (c : Comp)
      (taken : Bool) (b : Block) → CompFits (body_scope fn) c → holds f.store c ≡ taken →
      (n : Node p part U fn fixed f tasks d) →
      LeadsOn p d (goal n.state (tasks n.home)) (Branch taken)
      (row_added n.state (store_row n.state (side_of c.op taken) c)) n.home b →
      LedSame (Branch taken) part f (with_rest f b) tasks d n
  unfolding led
  sided part f tasks d c taken b fits e n lead =
      let to = (chosen p part U fn fixed f tasks d lead.tree_there b c (side_of c.op taken) fits n
      lead.valid (related f.store c taken e)).sits in
      record {
        led_on = led (Branch taken) part f (with_rest f b) tasks d n to lead refl refl refl;
        same = λ has x. record {
          elements = x.elements;
          forms = x.forms;
          cells = x.cells;
          guards = x.guards;
        };
      }

  module _ (part : Stock) (f : Frame) (l : Label) (rest : Block) (c : Comp)
      (fits : CompFits (body_scope fn) c) (taken : Bool) (is : holds f.store c ≡ taken) where
    pub branch-on :
        (a b : Block) (d : PlainTree) →
        (n : Node p part U fn fixed (with_rest f (first l (branch c a b) rest))
        (running (first l (branch c a b) rest)) d) →
        LedOn (Branch taken) part part (with_rest f (first l (branch c a b) rest))
        (with_rest f (if taken then append a rest else append b rest))
        (running (first l (branch c a b) rest)) d n
    branch-on a b (node (by_absurd u) ks) n =
        given-up p part U fn fixed (with_rest f (first l (branch c a b) rest))
        (λ h. to_run h (first l (branch c a b) rest)) u ks n
    branch-on a b (node by_if ks) n =
        let r = first l (branch c a b) rest in
        (sided part (with_rest f r) (running r) (node by_if ks) c taken
        (if taken then append a rest else append b rest) fits is n
        (branch-leads p ks n.state n.home l c a b rest taken n.valid)).led_on
    branch-on a b d n = absurd (p.step n.valid).1

    pub turn-same :
        (i : PlainAssertion) (a : Block) (d : PlainTree) →
        (n : Node p part U fn fixed f (λ h. to_turn h (first l (loop c i a) rest) ∷ []) d) →
        LedSame (Branch taken) part f
        (with_rest f (if taken then append a (first l (loop c i a) rest) else rest))
        (λ h. to_turn h (first l (loop c i a) rest) ∷ []) d n
    turn-same i a (node (by_absurd u) ks) n =
        given-up p part U fn fixed f (λ h. to_turn h (first l (loop c i a) rest)) u ks n
    turn-same i a (node by_turn ks) n =
        sided part f (λ h. to_turn h (first l (loop c i a) rest) ∷ []) (node by_turn ks) c taken
        (if taken then append a (first l (loop c i a) rest) else rest) fits is n
        (turn-leads p ks n.state n.home l c i a rest taken n.valid)
    turn-same i a d n = absurd (p.step n.valid).1

    abbrev pub turn-on :
        (i : PlainAssertion) (a : Block) (d : PlainTree) →
        (n : Node p part U fn fixed f (λ h. to_turn h (first l (loop c i a) rest) ∷ []) d) →
        LedOn (Branch taken) part part f
        (with_rest f (if taken then append a (first l (loop c i a) rest) else rest))
        (λ h. to_turn h (first l (loop c i a) rest) ∷ []) d n
    turn-on i a d n = (turn-same i a d n).led_on

  -- ---- allocations

  module _ (part : Stock) (f : Frame) (l : Label) (b : Block) (x m : ℕ) (base : ℤ)
      (up : pos 1 ≤ℤ base) (size : length fixed ≡ length fn.fixed) where
    abbrev enlarged : Stock
    enlarged = both p.program part (record { cells = fresh_cells base m; guards = no_guards })

    -- the state has the new cells then
    pub record LedFresh (d : PlainTree) (n : Node p part U fn fixed
        (with_rest f (first l (alloc x m) b)) (running (first l (alloc x m) b)) d) : Type 0 where
      pub led_on : LedOn (Alloc base) part
          (both p.program part (record { cells = fresh_cells base m; guards = no_guards }))
          (with_rest f (first l (alloc x m) b)) (with_value (with_rest f b) x base)
          (running (first l (alloc x m) b)) d n
      pub brings :
          (i : ℕ) → i < m →
          IsCellAt led_on.sits.at_node.v (base +ℤ pos i) led_on.sits.at_node.state.cells

    pub alloc-on :
        (d : PlainTree) →
        (n : Node p part U fn fixed (with_rest f (first l (alloc x m) b))
        (running (first l (alloc x m) b)) d) → LedFresh d n
    alloc-on (node (by_absurd c) ks) n =
        given-up p part U fn fixed (with_rest f (first l (alloc x m) b))
        (λ h. to_run h (first l (alloc x m) b)) c ks n
    alloc-on (node by_alloc ks) n =
        let r = first l (alloc x m) b in
        let g = with_value (with_rest f b) x base in
        let s1 = allocated x m n.state in
        let lead = alloc-leads p ks n.state n.home l x m b base n.valid in
        let there = (sits-allocated p part U fn fixed size x m base up f l b (node by_alloc ks) n
        lead.tree_there lead.valid).sits in
        record {
          led_on = record {
            sits = there;
            walks = λ rs q w is_tree is_goal alike tidy.
                let count = AllZip-long FitsSort n.state.sorts w.values tidy.sorted in
                subst (IsTold (StopsSo (IsAtNode p trees rs enlarged U fn fixed g there)))
                (sym (from-there (Alloc base) (node by_alloc ks) (goal n.state (running r n.home))
                (λ w. traced (stands (record {
                  goal = goal s1 (running b n.home);
                  tree = lead.tree_there;
                })
                (record w { values = w.values ++ a_number base ∷ []; events = [] })))
                (lead.walks enter) q w is_tree is_goal tidy.events))
                (record {
                  tree = refl;
                  goal_is = refl;
                  alike =
                      subst (Alike (Old s1) (set_to n.v (length n.state.sorts) base))
                      (sym (valuation-number w.values base
                      ∙ ap (λ i. set_to (valuation w.values) i base) count))
                      (alike-less (Old s1) (λ y. y < length n.state.sorts + 1)
                      (set_to n.v (length n.state.sorts) base)
                      (set_to (valuation w.values) (length n.state.sorts) base)
                      (λ y h. (let e = push-length n.state.sorts Int in omega (arith, h, e)))
                      (number-more (length n.state.sorts) base n.v (valuation w.values) alike));
                  tidy = record {
                    sorted = sorted-more n.state.sorts w.values Int (a_number base) tidy.sorted tt;
                    regions = tidy.regions;
                    next = tidy.next;
                    events = refl;
                  };
                });
          };
          brings = λ i h.
              let base_is = is-base p part U fn fixed size x m base up f l b (node by_alloc ks) n in
              cell-behind (set_to n.v (length n.state.sorts) base) (base +ℤ pos i) n.state.cells
              (new_cells (fresh n.state) 0 m)
              (subst (λ z. IsCellAt (set_to n.v (length n.state.sorts) base) (z +ℤ pos i)
              (new_cells (fresh n.state) 0 m)) base_is
              (new-at (set_to n.v (length n.state.sorts) base) (fresh n.state) i m h));
        }
    alloc-on d n = absurd (p.step n.valid).1
