-- An act along a walk: its pairs without a mark get the states of their facts' regions, and the
-- walk goes into the tree of the state that the frame is in, a swap that fails into the second.
use Rattle.std.proofs.Common.{◌≡◌, inl, inr, ℕ, ◌<◌, ℤ, zero, suc, List, [], ◌∷◌, ◌++◌, length, map, Bool, true, false, Option, Some, refl, sym, ap, ◌∙◌, subst}
use Rattle.std.specs.Prelude.{flat_map, is_some, option_to_list, ◌==◌, if◌then◌else◌}
use Rattle.std.specs.List.{AllByRecursion, zip}
use Rattle.std.proofs.lemmas.Slice.Zip.{AllZip-long}
use Rattle.cap_lin.specs.Linear.{Linear}
use Rattle.cap_lin.specs.Values.{Valuation, value}
use Rattle.cap_farkas.specs.declared.cert.Cert.{Cert}
use Rattle.cap_prog.specs.Program.{Label, PlainAct, Block, first, PlainFunction}
use Rattle.cap_goal_spec.specs.States.{PlainState, Home, PlainTask, to_rest, PlainGoal, goal, goal_of, goals_of}
use Rattle.cap_goal_spec.specs.Choices.{node, by_act, PlainTrees, no_trees, tree}
use Rattle.cap_rules.specs.Closing.{address_of, rivals}
use Rattle.cap_rules_nodes.specs.Nodes.{goals_left}
use Rattle.cap_machine.specs.Machine.{Frame, value_in, with_rest}
use Rattle.cap_machine_accounts.specs.Assertions.{NameValue}
use Rattle.cap_account_resources.specs.Parts.{Table}
use Rattle.cap_account_resources.proofs.Lists.{map-length}
use Rattle.cap_account_resources.proofs.Stocks.{Stock, both, all_of}
use Rattle.cap_account_resources.proofs.Tables.{FitsRoom}
use Rattle.cap_account_states.specs.Nodes.{Children, Open}
use Rattle.cap_account_states.proofs.Checked.{Checked, first_trees, later_trees, children-split}
use Rattle.cap_account_states.proofs.Backed.{IsFirm}
use Rattle.cap_account_states.proofs.Facts.{FactHolds}
use Rattle.cap_account_states.proofs.KnowsLater.{Steady}
use Rattle.cap_account_states.proofs.Terms.{Agree}
use Rattle.cap_account_steps.proofs.Stores.{Store, running}
use Rattle.cap_account_steps.proofs.Worlds.{regions_of, Opening, opened_table, Closing, after_act, recelled, Exact}
use Rattle.cap_account_steps.proofs.Entering.{firm-exact}
use Rattle.cap_account_steps.proofs.Exact.{all-two}
use Rattle.cap_account_steps.proofs.AtCell.{then_close, AtCell, at-cell}
use Rattle.cap_account_steps.proofs.Acts.{act_number, Done, statement-done}
use Rattle.cap_machine.specs.declared.event.Event.{Event}
use Rattle.cap_owners_spec.specs.Traced.{traced, valuation}
use Rattle.cap_owners_spec.specs.Walks.{Walk, Descent, descends, Interpreting, walk_below, mark_values, act_child, bringing, pass_statement}
use Rattle.cap_owners_walks_laws.proofs.Values.More.{FitsSort}
use Rattle.cap_owners_walks_laws.proofs.Fills.Drawn.{Tells}
use Rattle.cap_owners_walks_laws.proofs.Walks.Leading.{Left, node-leads}
use Rattle.cap_owners_walks_laws.proofs.Passes.Rests.{walks_into, below-wide}
use Rattle.cap_owners_walks_laws.proofs.Passes.Gives.{GoesTo}
use Rattle.cap_owners_walks_laws.proofs.Regions.Enters.{below-at, sorted-join}
use Rattle.cap_owners_walks_laws.proofs.Regions.Freely.{closing-at, store-at, marks-agree, mark_sorts, marks-shape, marks-size, marks-sorted}
use Rattle.cap_owners_walks_laws.proofs.Regions.Marks.{marked_values, state-marks-so}
use Rattle.cap_owners_walks_laws.proofs.Regions.Refilled.{sorted-whole}
use Rattle.cap_owners_walks_laws.proofs.Regions.Regiven.{AreSorted}
use Rattle.cap_owners_walks_laws.proofs.Regions.Telling.{ToldSo, told-here, told-known}

-- ---- the goals after the statement

-- something is to be done in each state: regions are to be closed, facts to rest, or the frame runs
pub act-remains :
    (t : PlainState) (n m : ℕ) (b : Block) (h : Home) →
    (g : PlainGoal) × (goal_of t (then_close n m b h) ≡ Some g)
act-remains t n zero b h = by (0 == length t.facts)
  where
    by :
        (x : Bool) →
        (g : PlainGoal)
        × ((if x then goal_of t (running b h) else Some (goal t (to_rest 0 n ∷ running b h)))
        ≡ Some g)
    by true = (goal t (running b h), refl)
    by false = (goal t (to_rest 0 n ∷ running b h), refl)
act-remains t n (suc m) b h = (goal t (then_close n (suc m) b h), refl)

-- the goals of several states, each of which has one
module _ (ts : List PlainTask)
    (remains : (t : PlainState) → (g : PlainGoal) × (goal_of t ts ≡ Some g)) where
  abbrev f : PlainState → List PlainGoal
  f t = goals_of t ts

  one : (t : PlainState) → (g : PlainGoal) × (goals_of t ts ≡ g ∷ [])
  one t = let g = remains t in (g.0, ap option_to_list g.1)

  pub record Amid (before : List PlainState) (t : PlainState) (behind : List PlainState)
      : Type 0 where
    pub sooner : List PlainGoal
    pub later : List PlainGoal
    pub own : PlainGoal
    pub is_own : goals_of t ts ≡ own ∷ []
    pub count : length sooner ≡ length before
    pub are : flat_map f (before ++ t ∷ behind) ≡ sooner ++ own ∷ later

  pub amid : (before : List PlainState) (t : PlainState) (behind : List PlainState) →
      Amid before t behind
  amid [] t behind = record {
    sooner = [];
    later = flat_map f behind;
    own = (one t).0;
    is_own = (one t).1;
    count = refl;
    are = ap (λ gs. gs ++ flat_map f behind) (one t).1;
  }
  amid (u ∷ before) t behind =
      let k = amid before t behind in
      record {
        sooner = (one u).0 ∷ k.sooner;
        later = k.later;
        own = k.own;
        is_own = k.is_own;
        count = ap suc k.count;
        are =
            ap (λ gs. gs ++ flat_map f (before ++ t ∷ behind)) (one u).1
            ∙ ap (λ gs. (one u).0 ∷ gs) k.are;
      }

-- ---- the walk

-- the marks of an act, and the child
pub act-so :
    (w : Walk) (V : Table) (s : PlainState) (j : ℕ) (cs : List Cert) (ms : List (Option Cert))
    (a : PlainAct) (ev : Event) → Tells w.regions V →
    AllByRecursion (Exact (valuation w.values) V) s.facts →
    ToldSo
    (λ d. d ≡ descends (Some (act_child ev))
    (bringing w (marked_values (valuation w.values) (zip (rivals s) ms))))
    (pass_statement s (by_act j cs ms) a ev w)
act-so w V s j cs ms a ev tells exact =
    let us = marked_values (valuation w.values) (zip (rivals s) ms) in
    let Q = λ (d : Descent). d ≡ descends (Some (act_child ev)) (bringing w us) in
    told-known Q (mark_values w (zip (rivals s) ms)) us _ (state-marks-so w V s ms tells exact)
    (told-here Q (descends (Some (act_child ev)) (bringing w us)) refl)

-- ---- a node

-- the tree of one of several goals
child-at :
    (p : Checked) (ks : PlainTrees) (before behind : List PlainGoal) (g : PlainGoal) →
    Children p.N ks (before ++ (g ∷ behind)) →
    Children p.N (first_trees 1 (later_trees (length before) ks)) (g ∷ [])
child-at p ks before behind g h =
    (children-split p.N (later_trees (length before) ks) (g ∷ []) behind
    (children-split p.N ks before (g ∷ behind) h).second).first

module _ (p : Checked) (V : Table) (share : ℤ → Stock) (part : Stock) (fn : PlainFunction)
    (fixed : List NameValue) (size : length fixed ≡ length fn.fixed) (f : Frame) (l : Label)
    (a : PlainAct) (b : Block) (h : Home) (x : Linear) (address : address_of a ≡ Some x)
    (vs : List NameValue) (s : PlainState)
    (o : Opening p.program V share part (valuation vs) s)
    (room : FitsRoom p.program V
    (both p.program part (all_of p.program (regions_of (valuation vs) s.opened) share)))
    (st : Store (valuation vs) s h fn fixed (with_rest f (first l a b))) (j : ℕ) (cs : List Cert)
    (ms : List (Option Cert)) (ks : PlainTrees)
    (valid : p.N (node (by_act j cs ms) ks) s (running (first l a b) h)) where
  abbrev v : Valuation
  v = valuation vs

  abbrev ns : List ℤ
  ns = regions_of (valuation vs) s.opened

  abbrev held : Stock
  held = both p.program part (all_of p.program (regions_of (valuation vs) s.opened) share)

  abbrev G : List PlainGoal → Type 0
  G = Left p (by_act j cs ms) ks (goal s (running (first l a b) h))

  -- soundness's state after the marks, and then after the statement
  abbrev pub cell :
      AtCell p G V part held ns fn fixed f h l.number a b (value_in f.store x) v s (map is_some ms)
  cell =
      at-cell p G V share part fn fixed f l a b h v s x address o room st size j (map is_some ms)
      (node-leads p (by_act j cs ms) ks s (running (first l a b) h) valid)

  abbrev pub content : ℤ
  content = value cell.v.whole cell.c.1

  abbrev pub done : Done p G V part held ns fn fixed f h l.number b x v s (map is_some ms) a cell
      (after_act a f b content) (act_number a f content)
  done =
      statement-done p G V part held ns fn fixed f h l.number b x v s (map is_some ms) a address
      cell

  abbrev pub act_tasks : List PlainTask
  act_tasks = then_close l.number (length cell.s.opened) (after_act a f b content).1.rest h

  abbrev among : Amid act_tasks
      (λ t. act-remains t l.number (length cell.s.opened) (after_act a f b content).1.rest h)
      done.before done.t done.behind
  among = amid act_tasks
      (λ t. act-remains t l.number (length cell.s.opened) (after_act a f b content).1.rest h)
      done.before done.t done.behind

  abbrev pub act_trees : PlainTrees
  act_trees = first_trees 1 (later_trees (length among.sooner) ks)

  pub act-goes : Open p.N act_trees done.t act_tasks
  act-goes =
      subst (Children p.N act_trees) (sym among.is_own)
      (child-at p ks among.sooner among.later among.own
      (subst (Children p.N ks) among.are done.goals.1))

  exact : AllByRecursion (Exact v V) s.facts
  exact =
      all-two IsFirm (FactHolds v V) (Exact v V) (λ g i k. firm-exact v V g i k) s.facts o.firm
      o.facts.holds

  -- a walk comes there by the step, unless a number leaves its bounds
  pub act-walks :
      (seating : Bool) (enter : Interpreting) (w : Walk) (ev : Event) (more : List Event) →
      act_child ev ≡ act_number a f content → Tells w.regions V →
      GoesTo
      (walks_into seating enter p.program (tree (node (by_act j cs ms) ks) no_trees)
      (goal s (running (first l a b) h) ∷ []) (record w { values = vs; events = ev ∷ more }))
      (walks_into seating enter p.program act_trees (goals_of done.t act_tasks)
      (record w { values = vs ++ marked_values v (zip (rivals s) ms); events = more }))
  act-walks seating enter w ev more is tells =
      let pp = p.program in
      let gs = goals_left pp (goal s (running (first l a b) h)) (by_act j cs ms) in
      let w0 = record w { values = vs; events = more } in
      let w1 = bringing w0 (marked_values v (zip (rivals s) ms)) in
      let m = among in
      let there = ap (λ us. walk_below enter pp seating ks us
      (traced (descends (Some (act_child ev)) w1))) (done.goals.0 ∙ m.are)
      ∙ ap (λ n. walk_below enter pp seating ks (m.sooner ++ (m.own ∷ m.later))
      (traced (descends (Some n) w1))) (is ∙ sym done.count ∙ sym m.count)
      ∙ below-at seating enter p ks m.sooner m.later m.own w1
      (subst (Children p.N ks) m.are done.goals.1)
      ∙ ap (λ us. walks_into seating enter pp act_trees us w1) (sym m.is_own) in
      elim (act-so w0 V s j cs ms a ev tells exact) [
        | inl wide ↦
            inl (ap (walk_below enter pp seating ks gs) wide ∙ below-wide enter pp seating ks gs)
        | inr d ↦ inr (ap (walk_below enter pp seating ks gs) (d.1 ∙ ap traced d.2) ∙ there)
      ]

  -- ---- what is known there

  abbrev pub act_values : List NameValue
  act_values = vs ++ marked_values v (zip (rivals s) ms)

  -- the walk's values are of their sorts
  pub act-sorted : AreSorted s.sorts vs → AreSorted done.t.sorts act_values
  act-sorted sorted =
      let bs = map is_some ms in
      let count = marks-size (rivals s) bs s cell.s cell.marked ∙ map-length is_some ms in
      subst (λ os. AreSorted os act_values)
      (sym (done.sorts ∙ marks-shape (rivals s) bs s cell.s cell.marked))
      (sorted-join s.sorts (mark_sorts bs) vs (marked_values v (zip (rivals s) ms)) sorted
      (marks-sorted v (rivals s) ms count))

  pub act-agree :
      AreSorted s.sorts vs → Agree (Steady cell.ks done.t) cell.v (valuation act_values)
  act-agree sorted =
      marks-agree cell.ks s done.t cell.v vs (marked_values v (zip (rivals s) ms))
      (sym (AllZip-long FitsSort s.sorts vs sorted)) cell.agree
      (λ y h n. cell.kept y h (subst (λ os. y < length os) done.sorts n))

  -- regions are closed from there at the walk's values, as at soundness's
  pub act-closing :
      AreSorted s.sorts vs →
      Closing p.program V (opened_table ns V) part cell.ks (valuation act_values) done.t
      (recelled held (value_in f.store x) content (after_act a f b content).0)
  act-closing sorted =
      closing-at p.program V (opened_table ns V) part cell.ks cell.v (valuation act_values) done.t
      (recelled held (value_in f.store x) content (after_act a f b content).0) (act-agree sorted)
      (sorted-whole done.t.sorts act_values (act-sorted sorted)) done.ready.closing

  -- and the frame stands there
  pub act-store :
      AreSorted s.sorts vs →
      Store (valuation act_values) done.t h fn fixed (after_act a f b content).1
  act-store sorted =
      store-at cell.ks cell.v (valuation act_values) done.t h fn fixed (after_act a f b content).1
      (act-agree sorted) done.ready.over cell.names size done.ready.store
