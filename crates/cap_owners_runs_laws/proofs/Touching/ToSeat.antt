-- A walk from an act: the statement acts, all regions are closed, and the walk stops at a seat before
-- the facts rest. The state there holds of the frame.
use Rattle.std.proofs.Common.{◌≡◌, ◌⊎◌, inl, inr, cond, ℕ, ◌+◌, ◌≤◌, ℤ, ◌<ℤ◌, Bool, true, false, List, [], ◌∷◌, ◌++◌, length, map, Option, Some, None, refl, sym, ap, ◌∙◌, subst, arith}
use Rattle.std.specs.Prelude.{option_map, is_some, option_to_list, ◌==◌, if◌then◌else◌}
use Rattle.std.specs.List.{AllByRecursion}
use Rattle.std.specs.FinMap.{get}
use Rattle.cap_lin.specs.Linear.{Linear, same_number}
use Rattle.cap_lin.specs.Values.{Valuation, value}
use Rattle.cap_lin.specs.declared.row.Sort.TheVariants.{Int}
use Rattle.cap_farkas.specs.declared.cert.Cert.{Cert}
use Rattle.cap_prog.specs.Program.{Label, PlainAct, Block, first, PlainFunction}
use Rattle.cap_prog.specs.WellFormed.{IsWellFormed}
use Rattle.cap_goal_spec.specs.States.{PlainState, Home, PlainTask, to_rest, PlainGoal, goal, goal_of, goals_of}
use Rattle.cap_goal_spec.specs.Choices.{PlainTree, node, by_act, PlainTrees, no_trees, tree}
use Rattle.cap_rules.specs.Closing.{address_of}
use Rattle.cap_machine.specs.Machine.{Heap, Frame, value_in, with_rest}
use Rattle.cap_machine.specs.declared.event.Event.{Event}
use Rattle.cap_machine_accounts.specs.Assertions.{NameValue}
use Rattle.cap_account_resources.specs.Parts.{cells_of, one_cell, known_as, Table}
use Rattle.cap_account_resources.proofs.Heaps.{there-in}
use Rattle.cap_account_resources.proofs.Lists.{some-same, none-some, join-nil, Among, all-more}
use Rattle.cap_account_resources.proofs.Order.{same-int}
use Rattle.cap_account_resources.proofs.Stocks.{Stock, both, all_of}
use Rattle.cap_account_resources.proofs.Tables.{FitsRoom}
use Rattle.cap_account_states.specs.Nodes.{Children}
use Rattle.cap_account_states.proofs.Backed.{Backed}
use Rattle.cap_account_states.proofs.Checked.{Checked}
use Rattle.cap_account_states.proofs.Facts.{FactOver, LooseState}
use Rattle.cap_account_states.proofs.Meets.{Usable}
use Rattle.cap_account_assertions.proofs.Follows.{all-among}
use Rattle.cap_account_assertions.proofs.Laws.{TakenLaw}
use Rattle.cap_account_steps.proofs.Acts.{act_number, Done}
use Rattle.cap_account_steps.proofs.AtCell.{AtCell}
use Rattle.cap_account_steps.proofs.Changing.{holds-cell}
use Rattle.cap_account_steps.proofs.Exact.{all-two}
use Rattle.cap_account_steps.proofs.Finishing.{StoreBeside, beside-later}
use Rattle.cap_account_steps.proofs.Firming.{over-free}
use Rattle.cap_account_steps.proofs.KeptFree.{usable-free, grounded-free}
use Rattle.cap_account_steps.proofs.OpenTables.{opened-there}
use Rattle.cap_account_steps.proofs.Stores.{Store, running}
use Rattle.cap_account_steps.proofs.Worlds.{IsThere, World, Exact, AllOver, regions_of, Opening, opened_table, after_act, new_content}
use Rattle.cap_owners_spec.specs.Traced.{Traced, traced, past_width, valuation}
use Rattle.cap_owners_spec.specs.Track.{Fill, Place, TrackedRegion, tracked_at}
use Rattle.cap_owners_spec.specs.Walks.{Walk, Interpreting, Halt, stands, walk, act_child}
use Rattle.cap_owners_walks_laws.proofs.Fills.Drawn.{Tells}
use Rattle.cap_owners_walks_laws.proofs.Walks.Leading.{Left}
use Rattle.cap_owners_walks_laws.proofs.Passes.Rests.{walks_into}
use Rattle.cap_owners_walks_laws.proofs.Regions.Acted as acted
use Rattle.cap_owners_walks_laws.proofs.Regions.ActCloses.{then_values, then_held, regions-then, act-closes}
use Rattle.cap_owners_walks_laws.proofs.Regions.Closes.{Closes}
use Rattle.cap_owners_walks_laws.proofs.Regions.ClosesAll.{renewed, ClosesAll, AllWide, closes-all}
use Rattle.cap_owners_walks_laws.proofs.Regions.Open.{numbers_in, AreAscending}
use Rattle.cap_owners_walks_laws.proofs.Regions.Regiven.{AreSorted}
use Rattle.cap_owners_walks_laws.proofs.Regions.Says.{SaysOr}
use Rattle.cap_owners_runs_laws.proofs.Tracks.Seats.{Seat}

-- something is to be done at a seat: facts are to rest, or the frame runs
seat-goal :
    (s : PlainState) (n : ℕ) (b : Block) (h : Home) →
    (g : PlainGoal) × (goal_of s (to_rest 0 n ∷ running b h) ≡ Some g)
seat-goal s n b h = by (0 == length s.facts)
  where
    by :
        (t : Bool) →
        (g : PlainGoal)
        × ((if t then goal_of s (running b h) else Some (goal s (to_rest 0 n ∷ running b h)))
        ≡ Some g)
    by true = (goal s (running b h), refl)
    by false = (goal s (to_rest 0 n ∷ running b h), refl)

-- a walk to a seat stops there
seat-stops :
    (enter : Interpreting) (p : Checked) (s : PlainState) (n : ℕ) (b : Block) (h : Home)
    (g : PlainGoal) → goal_of s (to_rest 0 n ∷ running b h) ≡ Some g → (d : PlainTree) (w : Walk) →
    walk enter p.program true d g (record w { events = [] })
    ≡ traced (stands (record { goal = g; tree = d }) (record w { events = [] }))
seat-stops enter p s n b h g is (node c ks) w = by (0 == length s.facts) is
  where
    Stops : PlainGoal → Type 0
    Stops g =
        walk enter p.program true (node c ks) g (record w { events = [] })
        ≡ traced (stands (record { goal = g; tree = node c ks }) (record w { events = [] }))

    by :
        (t : Bool) →
        (if t then goal_of s (running b h) else Some (goal s (to_rest 0 n ∷ running b h))) ≡ Some g →
        Stops g
    by true e = subst Stops (some-same (goal s (running b h)) g e) refl
    by false e = subst Stops (some-same (goal s (to_rest 0 n ∷ running b h)) g e) refl

-- a region that is found has its number among all
tracked-in :
    (rs : List TrackedRegion) (n : ℤ) (r : TrackedRegion) → tracked_at rs n ≡ Some r →
    Among n (numbers_in rs)
tracked-in [] n r e = absurd (none-some e)
tracked-in (q ∷ rs) n r e =
    by (same_number q.owned.region.number n) refl e (λ k. tracked-in rs n r k)
  where
    by :
        (b : Bool) → same_number q.owned.region.number n ≡ b →
        cond b (Some q) (tracked_at rs n) ≡ Some r →
        (tracked_at rs n ≡ Some r → Among n (numbers_in rs)) → Among n (numbers_in (q ∷ rs))
    by true t k later = inl (same-int q.owned.region.number n t)
    by false t k later = inr (later k)

-- what the table tells of is tracked
told-in :
    (rs : List TrackedRegion) (V : Table) (n : ℤ) → Tells rs V → IsThere V n →
    Among n (numbers_in rs)
told-in rs V n tells e = by (tracked_at rs n) refl (tells n ∙ e.1)
  where
    by :
        (o : Option TrackedRegion) → tracked_at rs n ≡ o →
        option_map
        (λ r. known_as r.owned.region.kind r.owned.region.args (Some r.owned.region.state)) o
        ≡ Some e.0 → Among n (numbers_in rs)
    by None q h = absurd (none-some h)
    by (Some r) q h = tracked-in rs n r q

module _ (p : Checked) (trees : List (Option PlainTree)) (wf : IsWellFormed p.program)
    (law : TakenLaw p) (V : Table)
    (share : ℤ → Stock) (part : Stock) (heap : Heap) (world : World p.program V share part heap)
    (fn : PlainFunction) (fixed : List NameValue) (size : length fixed ≡ length fn.fixed)
    (f : Frame) (l : Label) (a : PlainAct) (b : Block) (h : Home) (x : Linear)
    (address : address_of a ≡ Some x) (vs : List NameValue) (s : PlainState)
    (o : Opening p.program V share part (valuation vs) s)
    (st : Store (valuation vs) s h fn fixed (with_rest f (first l a b))) (j : ℕ) (cs : List Cert)
    (ms : List (Option Cert)) (ks : PlainTrees)
    (valid : p.N (node (by_act j cs ms) ks) s (running (first l a b) h))
    (sorted : AreSorted s.sorts vs) (z : ℤ) (cell : get heap (value_in f.store x) ≡ Some z)
    (heap1 : Heap)
    (puts : (c y : ℤ) →
    cells_of heap1 c y + one_cell (value_in f.store x) z c y
    ≡ cells_of heap c y + new_content (value_in f.store x) (after_act a f b z).0 c y)
    (rs : List TrackedRegion) (next : ℤ) (tells : Tells rs V)
    (ascending : AreAscending (numbers_in rs))
    (below : AllByRecursion (λ n. n <ℤ next) (numbers_in rs)) where
  abbrev v : Valuation
  v = valuation vs

  abbrev pub ns : List ℤ
  ns = regions_of (valuation vs) s.opened

  abbrev pub held : Stock
  held = both p.program part (all_of p.program (regions_of (valuation vs) s.opened) share)

  abbrev ad : ℤ
  ad = value_in f.store x

  pub there : AllByRecursion (IsThere V) (regions_of (valuation vs) s.opened)
  there = opened-there v V s o.opened

  abbrev pub room : FitsRoom p.program V
      (both p.program part (all_of p.program (regions_of (valuation vs) s.opened) share))
  room = world.room (regions_of (valuation vs) s.opened) o.differ there

  abbrev pub C : ℤ
  C = acted.content p V share part fn fixed size f l a b h x address vs s o room st j cs ms ks valid

  abbrev pub k : AtCell p (Left p (by_act j cs ms) ks (goal s (running (first l a b) h))) V part held
      ns fn fixed f h l.number a b (value_in f.store x) (valuation vs) s (map is_some ms)
  k = acted.cell p V share part fn fixed size f l a b h x address vs s o room st j cs ms ks valid

  abbrev pub d : Done p (Left p (by_act j cs ms) ks (goal s (running (first l a b) h))) V part held
      ns fn fixed f h l.number b x (valuation vs) s (map is_some ms) a k (after_act a f b C)
      (act_number a f C)
  d = acted.done p V share part fn fixed size f l a b h x address vs s o room st j cs ms ks valid

  abbrev pub us : List NameValue
  us = then_values p V share part fn fixed size f l a b h x address vs s o room st j cs ms ks valid
      sorted

  abbrev pub held_then : Stock
  held_then = then_held p V share part fn fixed size f l a b h x address vs s o room st j cs ms ks
      valid sorted

  abbrev W : Table
  W = opened_table ns V

  -- the cell is there
  pub had :
      (c y : ℤ) → one_cell (value_in f.store x) C c y ≤ held.cells c y
  had =
      holds-cell p.program V W part k.ks k.v k.s held h fn fixed (with_rest f b) k.ready k.j k.c
      k.is ad k.address

  pub is-cell : get heap (value_in f.store x) ≡ Some C
  is-cell =
      there-in heap ad C
      (λ c y.
      let one = had c y in
      let le = world.cells ns o.differ there c y in omega (arith, one, le))

  pub content-is : C ≡ z
  content-is = some-same C z (sym is-cell ∙ cell)

  pub puts-here :
      (c y : ℤ) →
      cells_of heap1 c y + one_cell (value_in f.store x) C c y
      ≡ cells_of heap c y + new_content (value_in f.store x) (after_act a f b C).0 c y
  puts-here =
      subst (λ z.
      (c y : ℤ) →
      cells_of heap1 c y + one_cell (value_in f.store x) z c y
      ≡ cells_of heap c y + new_content (value_in f.store x) (after_act a f b z).0 c y)
      (sym content-is) puts

  abbrev pub known_here : Type 0
  known_here = Closes p heap1 V part W k.ks us d.t held_then (rs ++ []) next

  known : known_here
  known =
      subst (λ qs. Closes p heap1 V part W k.ks us d.t held_then qs next) (sym (join-nil rs))
      (act-closes p V share part fn fixed size f l a b h x address vs s o room st j cs ms ks valid
      sorted heap1 world.fits world.bound world.listed there rs next tells ascending below
      (λ c y.
      let one = had c y in
      let le = world.cells ns o.differ there c y in
      let i = puts-here c y in omega (arith, one, le, i)))

  abbrev pub tasks : List PlainTask
  tasks = to_rest 0 l.number ∷ running (after_act a f b C).1.rest h

  abbrev pub act_trees : PlainTrees
  act_trees = acted.act_trees p V share part fn fixed size f l a b h x address vs s o room st j cs
      ms ks valid

  abbrev pub AllHere : Type 0
  AllHere =
      ClosesAll p heap1 V part W k.ks us d.t held_then rs [] next l.number (length k.s.opened) tasks
      act_trees

  closes-here :
      AllWide p heap1 V part us d.t (rs ++ []) next l.number (length k.s.opened) tasks act_trees
      ⊎ AllHere
  closes-here =
      closes-all p wf law heap1 V part (length k.s.opened) W k.ks us d.t held_then rs [] next
      l.number tasks act_trees (sym (ap length d.opened))
      (acted.act-goes p V share part fn fixed size f l a b h x address vs s o room st j cs ms ks
      valid)
      (λ m i.
      told-in rs V m tells
      (all-among (IsThere V) ns m there
      (subst (Among m)
      (regions-then p V share part fn fixed size f l a b h x address vs s o room st j cs ms ks valid
      sorted) i)))
      known

  -- ---- the seat

  module _ (y : AllHere) where
    -- its goal and its tree
    pub record SeatPlace : Type 0 where
      pub place : Place
      pub goal_is : goals_of y.after tasks ≡ place.goal ∷ []
      pub tree_is : y.children ≡ tree place.tree no_trees
      pub some_goal : goal_of y.after tasks ≡ Some place.goal

    pub seat-place : SeatPlace
    seat-place =
        let g = seat-goal y.after l.number (after_act a f b C).1.rest h in
        let goals : goals_of y.after tasks ≡ g.0 ∷ [] = ap option_to_list g.1 in
        let d = only y.children g.0 (subst (Children p.N y.children) goals y.goes) in
        record {
          place = record { goal = g.0; tree = d.0 };
          goal_is = goals;
          tree_is = d.1;
          some_goal = g.1;
        }
      where
        only :
            (ks : PlainTrees) (g : PlainGoal) → Children p.N ks (g ∷ []) →
            (d : PlainTree) × (ks ≡ tree d no_trees)
        only no_trees g h = absurd h
        only (tree t no_trees) g h = (t, refl)
        only (tree t (tree q qs)) g h = absurd h.1

    abbrev then_frame : Frame
    then_frame = (after_act a f b C).1

    -- all that is known there says what the table does
    all-exact : AllByRecursion (Exact (valuation y.values) y.by.U) y.after.facts
    all-exact =
        all-more
        (SaysOr (valuation y.values) y.by.U (regions_of (valuation y.values) y.after.opened))
        (Exact (valuation y.values) y.by.U)
        (λ g q. elim q [
          | inl a ↦ absurd (subst (λ fs. Among (value (valuation y.values).whole g.region)
              (regions_of (valuation y.values) fs)) y.none_open a)
          | inr e ↦ e
        ]) y.after.facts y.known.says

    beside : StoreBeside y.js (valuation y.values) y.after h fn fixed then_frame
    beside =
        beside-later h fn fixed then_frame p k.ks y.js (valuation us) (valuation y.values) d.t y.after
        y.later
        (record {
          store = acted.act-store p V share part fn fixed size f l a b h x address vs s o room st j cs
              ms ks valid sorted;
          over = d.ready.over;
          free = k.names;
          count = size;
        })

    -- the state holds of the frame, with whatever backs it
    pub seat-with :
        (q : Stock) → Backed p.program (valuation y.values) y.after q → (t : SeatPlace) →
        Seat p trees q y.by.U fn fixed then_frame (running then_frame.rest) t.place y.values
    seat-with q backed t =
        let c = y.known.closing in
        let u = valuation y.values in
        record {
          state = y.after;
          home = h;
          number = l.number;
          kids = y.children;
          goes = y.goes;
          tree_is = t.tree_is;
          goal_is = t.goal_is;
          none_open = y.none_open;
          grounded =
              grounded-free p.program y.after y.js [] u
              (usable-free p.program y.after y.js [] (λ i k. tt)) c.grounded;
          over =
              all-two (FactOver (Usable y.js y.after.sorts Int)) (LooseState y.js y.after.sorts)
              (AllOver (Usable [] y.after.sorts Int)) (over-free y.js y.after.sorts) y.after.facts
              c.facts.over c.facts.loose;
          exact = all-exact;
          backed = backed;
          store = beside.store;
          sorted = y.known.sorted;
        }

    pub seat-state :
        (q : Stock) (backed : Backed p.program (valuation y.values) y.after q) (t : SeatPlace) →
        (seat-with q backed t).state ≡ y.after
    unfolding seat-with
    seat-state q backed t = refl

    -- ---- the walk

    abbrev pub at_seat : Walk → Option Fill → Walk
    at_seat w fill = record w {
      values = y.values;
      next = y.next_is;
      regions = renewed y.closed rs ++ ([] ++ y.made);
      fill = fill;
      events = [];
    }

  -- from the act on a walk comes to the seat, unless a number leaves its bounds
  abbrev pub SeatsSo : Interpreting → Walk → Option Fill → Traced Halt → Type 0
  SeatsSo enter w fill o =
      (o ≡ past_width)
      ⊎ ((y : AllHere) × (o ≡ traced (stands (seat-place y).place (at_seat y w fill))))

  module _ (enter : Interpreting) (w : Walk) (regions_are : w.regions ≡ rs) (next_is : w.next ≡ next)
      (fill : Option Fill) (ev : Event) (child : act_child ev ≡ act_number a f C) where
    abbrev acting : Walk
    acting = record w { fill = fill }

    abbrev closing : Traced Halt
    closing =
        walks_into true enter p.program act_trees (goals_of d.t (acted.act_tasks p V share part fn
        fixed size f l a b h x address vs s o room st j cs ms ks valid)) (record w {
          values = us;
          next = next;
          regions = rs ++ [];
          fill = fill;
          events = [];
        })

    to-closing :
        (walks_into true enter p.program (tree (node (by_act j cs ms) ks) no_trees)
        (goal s (running (first l a b) h) ∷ [])
        (record w { values = vs; events = ev ∷ []; fill = fill })
        ≡ past_width)
        ⊎ (walks_into true enter p.program (tree (node (by_act j cs ms) ks) no_trees)
        (goal s (running (first l a b) h) ∷ [])
        (record w { values = vs; events = ev ∷ []; fill = fill })
        ≡ closing)
    to-closing =
        elim (acted.act-walks p V share part fn fixed size f l a b h x address vs s o room st j cs ms
        ks valid true enter acting ev [] child
        (subst (λ qs. Tells qs V) (sym regions_are) tells)) [
          | inl wide ↦ inl wide
          | inr on ↦ inr (on ∙ (λ i. walks_into true enter p.program act_trees
              (goals_of d.t (acted.act_tasks p V share part fn fixed size f l a b h x address vs s o
              room st j cs ms ks valid)) (record w {
                values = us;
                next = next_is i;
                regions = (regions_are ∙ sym (join-nil rs)) i;
                fill = fill;
                events = [];
              })))
        ]

    to-end : (y : AllHere) → SeatsSo enter w fill closing
    to-end y =
        let t = seat-place y in
        elim (y.walks true enter (record w { fill = fill; events = [] })) [
          | inl wide ↦ inl wide
          | inr on ↦ inr (
            y,
            on
                ∙ (λ i. walks_into true enter p.program (t.tree_is i) (t.goal_is i) (at_seat y w fill))
                ∙ seat-stops enter p y.after l.number (after_act a f b C).1.rest h t.place.goal
                t.some_goal t.place.tree (at_seat y w fill),
          )
        ]

    pub act-seats :
        SeatsSo enter w fill
        (walks_into true enter p.program (tree (node (by_act j cs ms) ks) no_trees)
        (goal s (running (first l a b) h) ∷ [])
        (record w { values = vs; events = ev ∷ []; fill = fill }))
    act-seats = elim to-closing [
      | inl wide ↦ inl wide
      | inr on ↦ elim closes-here [
        | inl wide ↦ inl (on ∙ wide true enter (record w { fill = fill; events = [] }))
        | inr y ↦ elim (to-end y) [
          | inl wide ↦ inl (on ∙ wide)
          | inr z ↦ inr (z.0, on ∙ z.1)
        ]
      ]
    ]
