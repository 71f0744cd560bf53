-- Statements that touch no region: a local is set, a check holds, a branch is taken, and cells are
-- allocated.
use Rattle.std.proofs.Common.{◌≡◌, ◌⊎◌, inl, inr, ℕ, zero, suc, ◌+◌, ◌≤◌, ℤ, pos, ◌+ℤ◌, ◌≤ℤ◌, Bool, true, false, List, [], ◌∷◌, ◌++◌, length, Option, Some, None, refl, sym, ap, ◌∙◌, subst, arith}
use Rattle.std.specs.Prelude.{◌&&◌, is_none, int_le, if◌then◌else◌}
use Rattle.std.specs.List.{AllByRecursion}
use Rattle.std.specs.FinMap.{get}
use Rattle.std.proofs.lemmas.Int.{ints}
use Rattle.cap_lin.specs.Linear.{Linear}
use Rattle.cap_lin.specs.Values.{Valuation}
use Rattle.cap_prog.specs.declared.assertion.Comp.{Comp}
use Rattle.cap_prog.specs.Program.{Label, set, alloc, branch, check, Block, first, append, PlainFunction}
use Rattle.cap_goal_spec.specs.Choices.{PlainTree}
use Rattle.cap_goal_spec.specs.States.{PlainState}
use Rattle.cap_machine.specs.Machine as machine
use Rattle.cap_machine.specs.Machine.{Heap, Frame, fault, disabled, value_in, holds, with_rest, with_value, passes, sets, are_free, may_be_at, does}
use Rattle.cap_machine.specs.declared.event.Event.{Event}
use Rattle.cap_machine.specs.declared.event.Event.TheVariants.{Set, Alloc, Branch, Assert, Failed}
use Rattle.cap_machine_accounts.specs.Parts.{Part, no_part}
use Rattle.cap_machine_accounts.specs.Accounts.{Held, Account}
use Rattle.cap_machine_accounts.specs.Assertions.{NameValue}
use Rattle.cap_machine_accounts.specs.Following.{StaysOn, FramesFollow, accesses}
use Rattle.cap_machine_accounts.specs.Safety.{KeepsContracts}
use Rattle.cap_account_resources.specs.Parts.{count_of, cells_of, Table}
use Rattle.cap_account_resources.proofs.Covering.{free-right}
use Rattle.cap_account_resources.proofs.Heaps.{count-one, fresh_cells, allocated, both-true}
use Rattle.cap_account_resources.proofs.Interference.{Relies, relies-less, relies-same}
use Rattle.cap_account_resources.proofs.Stocks.{Stock, no_guards, both, inside-first, inside-guards}
use Rattle.cap_account_states.proofs.Alike.{Alike, usable-alike}
use Rattle.cap_account_states.proofs.Checked.{Checked}
use Rattle.cap_account_states.proofs.Meets.{Usable, CellOver, Old}
use Rattle.cap_account_states.proofs.Roots.{values-length}
use Rattle.cap_account_steps.proofs.Regained.{Stable}
use Rattle.cap_account_steps.proofs.Points.{Point, point-act, point-next, point-then, point-else, ok-rest, ok-store}
use Rattle.cap_account_steps.proofs.Local.{check-named}
use Rattle.cap_account.proofs.Stocked.{part_stock, account_table, callee_of, spot_of}
use Rattle.cap_account.proofs.Changes.{Recells}
use Rattle.cap_account.proofs.Following.{stepping}
use Rattle.cap_account.proofs.Successors.{scene}
use Rattle.cap_account.proofs.Strides.{same-cells}
use Rattle.cap_account.proofs.Ordinary.{recells-fresh}
use Rattle.cap_owners_spec.specs.Traced.{Traced, traced, past_width, untold, ◌>>=◌, valuation}
use Rattle.cap_owners_spec.specs.Track.{Place, TrackedFrame, Track, account_of}
use Rattle.cap_owners_spec.specs.Walks.{Walk, Halt, stands, leaves}
use Rattle.cap_owners_spec.specs.Steps.{Proved, Scene, walk_of, keeping, tracks_branch, stays_seated, moved}
use Rattle.cap_owners_laws.specs.Owned.{IsTold}
use Rattle.cap_owners_runs_laws.proofs.Tracks.Tied.{StopsSo, derivation, IsAtNode, Tied}
use Rattle.cap_owners_runs_laws.proofs.Tracks.Steps.{TurnKept, GoesKept, EachTurn, DoesKept}
use Rattle.cap_owners_runs_laws.proofs.Tracks.Saying.{track-tells}
use Rattle.cap_owners_runs_laws.proofs.Tracks.Turns.{own, stack-tied}
use Rattle.cap_owners_runs_laws.proofs.Steps.Onward.{set-on, check-on, branch-on, LedFresh, alloc-on}
use Rattle.cap_owners_walks_laws.proofs.Parts.Putting.{IsCellAt, new-or-old}
use Rattle.cap_owners_runs_laws.proofs.Steps.Staying.{tied-on, keeps-told}
use Rattle.cap_owners_runs_laws.proofs.Steps.Stepping.{stepped, after, local-kept}

-- ---- cells

-- what a heap has free, a part of it has free
free-within :
    (h q : Heap) (base : ℤ) (n : ℕ) → ((a z : ℤ) → cells_of q a z ≤ cells_of h a z) →
    are_free h base n ≡ true → are_free q base n ≡ true
free-within h q base zero le e = refl
free-within h q base (suc n) le e =
    let f = both-true (are_free h base n) (is_none (get h (base +ℤ pos n))) e in
    ap (λ t. t && is_none (get q (base +ℤ pos n))) (free-within h q base n le f.0)
    ∙ none-there (base +ℤ pos n) (get h (base +ℤ pos n)) (get q (base +ℤ pos n)) refl refl f.1
  where
    none-there :
        (a : ℤ) (m o : Option ℤ) → get h a ≡ m → get q a ≡ o → is_none m ≡ true → is_none o ≡ true
    none-there a m None i j t = refl
    none-there a None (Some z) i j t =
        let one = count-one q a z j in
        let none = ap (λ o. count_of o z) i in
        let l = le a z in
        absurd (omega (arith, one, none, l))
    none-there a (Some y) (Some z) i j t = absurd (cc)

-- a cell is at its address by alike values too
cell-alike :
    (s : PlainState) (v w : Valuation) → Alike (Old s) v w → (a : ℤ) (cs : List (Linear × Linear)) →
    AllByRecursion (CellOver (Usable [] s.sorts)) cs → IsCellAt v a cs → IsCellAt w a cs
cell-alike s v w l a [] o h = h
cell-alike s v w l a (c ∷ cs) o (inl e) = inl (usable-alike [] s v w l c.0 o.0.0 ∙ e)
cell-alike s v w l a (c ∷ cs) o (inr h) = inr (cell-alike s v w l a cs o.1 h)

-- ---- where a branch leads

module _ (d : Proved) where
  -- a walk that stops stays in its tree
  branch-stays :
      (s : Scene) (taken : Bool) (P : Place → Walk → Type 0) →
      IsTold (StopsSo P) (walk_of d false s (Branch taken)) →
      moved d s (Branch taken) ≡ stays_seated d s (Branch taken)
  branch-stays s taken P told = by (walk_of d false s (Branch taken)) refl told
    where
      by :
          (o : Traced Halt) → walk_of d false s (Branch taken) ≡ o → IsTold (StopsSo P) o →
          moved d s (Branch taken) ≡ stays_seated d s (Branch taken)
      by (traced (stands q w)) e h = ap (λ o. o >>= tracks_branch d s (Branch taken)) e
      by (traced (leaves w)) e h = absurd h
      by past_width e h =
          ap (λ o. o >>= tracks_branch d s (Branch taken)) e
          ∙ sym (ap (λ o. o >>= λ h.
          keeping d (record s.top { since = s.top.since ++ Branch taken ∷ [] }) h >>= λ f.
          traced (record { frames = f ∷ s.below; forked = None; regions = s.regions })) e)
      by untold e h = absurd h

-- ---- the statements

module _ (p : Checked) (trees : List (Option PlainTree)) (stable : Stable p.program) where
  abbrev d : Proved
  d = derivation p trees

  module _ (x : TurnKept p trees) where
    abbrev f : Frame
    f = x.turn.frame

    abbrev k : Track
    k = x.track

    abbrev V : Table
    V = account_table (account_of x.track)

    abbrev part : Stock
    part = part_stock x.top.held.part

    abbrev fixed : List NameValue
    fixed = x.top.held.fixed

    abbrev seen : Frame → Event → Scene
    seen g event = record {
      frame = x.turn.frame;
      after = after p trees stable x x.turn.c.heap x.top.held.part.cells g event;
      thread = x.turn.thread;
      top = x.top;
      below = x.below;
      regions = x.track.regions;
    }

    abbrev now : Event → TrackedFrame
    now event = stepped p trees stable x x.turn.c.heap x.top.held.part.cells x.turn.frame event

    -- the frame is tied before these statements, which are its next ones
    pub tied-before :
        (b : Block) → x.turn.frame.rest ≡ b →
        Tied p trees (part_stock x.top.held.part) (account_table (account_of x.track))
        x.top.held.fixed (with_rest x.turn.frame b) x.top
    tied-before b e =
        subst (λ b. Tied p trees part V fixed (with_rest f b) x.top) e
        (stack-tied p trees x).0

    -- nothing changes but the frame's store and its statements
    stays :
        (g : Frame) (event : Event) → Tied p trees part V fixed g (now event) →
        callee_of f x.top.held ≡ callee_of g x.top.held →
        ((hss : List (List Held)) (lefts : List Part) →
        StaysOn (stepping (own p trees x)) hss lefts →
        FramesFollow event (stepping (own p trees x)) hss no_part lefts) →
        ((b : Account) → KeepsContracts p.program x.turn.thread event x.turn.c
        (after p trees stable x x.turn.c.heap x.top.held.part.cells g event) (account_of x.track) b
        no_part) → accesses event ≡ None →
        moved d (seen g event) event ≡ stays_seated d (seen g event) event →
        GoesKept p trees x
        (machine.next (after p trees stable x x.turn.c.heap x.top.held.part.cells g event) event)
    stays g event tied callee frames keeps shut moves =
        local-kept p trees stable x x.turn.c.heap x.top.held.part.cells g event tied
        (same-cells p (own p trees x)) callee frames keeps shut moves
        (keeps-told p trees part V fixed g (now event) x.top.held.part.cells k.regions tied
        (λ a z. omega arith) (track-tells k) (λ q w at a. inl refl))

  pub sets-kept :
      EachTurn p trees (λ x l b. (y : ℕ) (t : Linear) → DoesKept p trees x l (set y t) b None)
  sets-kept x l b y t e =
      let r = first l (set y t) b in
      let z = value_in x.turn.frame.store t in
      let g = with_value (with_rest x.turn.frame b) y z in
      let tied = tied-before x r e in
      let fn = tied.stood.fn in
      stays x g (Set z)
      (tied-on p trees (part x) (part x) (V x) (fixed x) (with_rest x.turn.frame r) g x.top (Set z)
      tied
      (ok-store p.program fn (fixed x) (with_rest x.turn.frame r) y z b tied.stood.ok
      (point-act p.program fn l (set y t) b tied.stood.ok.point).0.low
      (point-next p.program fn l (set y t) b tied.stood.ok.point)) (λ U q. q)
      (λ U q. set-on p trees U fn (fixed x) (part x) x.turn.frame l b (Set z) y t
      (tied.stood.all U q).tree (tied.stood.all U q).at_node)) refl (λ hss lefts h. h) (λ b. tt)
      refl refl

  pub checks-kept :
      EachTurn p trees (λ x l b. (c : Comp) → DoesKept p trees x l (check c) b None)
  checks-kept x l b c e =
      let r = first l (check c) b in
      let f = x.turn.frame in
      let g = with_rest f b in
      let tied = tied-before x r e in
      let fn = tied.stood.fn in
      let is = (check-named p (part x) (V x) fn (fixed x) f l b c (record {
        ok = tied.stood.ok;
        sits = tied.stood.all (V x) (relies-same p.program (part x).guards (V x));
      })).0 in
      subst (λ t. GoesKept p trees x
      (if t then passes (spot_of x.turn) x.turn.c.heap b Assert else fault (Failed l.place)))
      (sym is)
      (stays x g Assert
      (tied-on p trees (part x) (part x) (V x) (fixed x) (with_rest f r) g x.top Assert tied
      (ok-rest p.program fn (fixed x) (with_rest f r) b tied.stood.ok
      (point-next p.program fn l (check c) b tied.stood.ok.point)) (λ U q. q)
      (λ U q. check-on p trees U fn (fixed x) (part x) f l b Assert c
      (tied.stood.all U q).tree (tied.stood.all U q).at_node)) refl (λ hss lefts h. h) (λ b. tt)
      refl refl)

  module _ (x : TurnKept p trees) (l : Label) (b : Block) (c : Comp) (a e : Block)
      (is : x.turn.frame.rest ≡ first l (branch c a e) b) where
    side-kept :
        (taken : Bool) → holds x.turn.frame.store c ≡ taken →
        GoesKept p trees x
        (passes (spot_of x.turn) x.turn.c.heap (if taken then append a b else append e b)
        (Branch taken))
    side-kept taken t =
        let r = first l (branch c a e) b in
        let f = x.turn.frame in
        let next = if taken then append a b else append e b in
        let g = with_rest f next in
        let tied = tied-before x r is in
        let fn = tied.stood.fn in
        let fits = point-act p.program fn l (branch c a e) b tied.stood.ok.point in
        let later = tied-on p trees (part x) (part x) (V x) (fixed x) (with_rest f r) g x.top
        (Branch taken) tied
        (ok-rest p.program fn (fixed x) (with_rest f r) next tied.stood.ok
        (points taken fn tied.stood.ok.point)) (λ U q. q)
        (λ U q. branch-on p trees U fn (fixed x) (part x) f l b c fits taken t a e
        (tied.stood.all U q).tree (tied.stood.all U q).at_node) in
        stays x g (Branch taken) later refl (λ hss lefts h. h) (λ b. tt) refl
        (branch-stays d (seen x g (Branch taken)) taken
        (IsAtNode p trees x.track.regions (part x) (V x) fn (fixed x) g
        (later.stood.all (V x) (relies-same p.program (part x).guards (V x))))
        (later.walks (V x) (relies-same p.program (part x).guards (V x)) x.track.regions
        (track-tells x.track)))
      where
        points :
            (taken : Bool) (fn : PlainFunction) → Point p.program fn (first l (branch c a e) b) →
            Point p.program fn (if taken then append a b else append e b)
        points true fn q = point-then p.program fn l c a e b q
        points false fn q = point-else p.program fn l c a e b q

  pub branches-kept :
      EachTurn p trees (λ x l b. (c : Comp) (a e : Block) →
      DoesKept p trees x l (branch c a e) b None)
  branches-kept x l b c a e is = by (holds x.turn.frame.store c) refl
    where
      by :
          (t : Bool) → holds x.turn.frame.store c ≡ t →
          GoesKept p trees x
          (if t then passes (spot_of x.turn) x.turn.c.heap (append a b) (Branch true)
          else passes (spot_of x.turn) x.turn.c.heap (append e b) (Branch false))
      by true t = side-kept x l b c a e is true t
      by false t = side-kept x l b c a e is false t

  -- ---- allocations

  module _ (x : TurnKept p trees) (l : Label) (b : Block) (y n : ℕ) (base : ℤ)
      (is : x.turn.frame.rest ≡ first l (alloc y n) b)
      (may : may_be_at x.turn.c.heap base n ≡ true) where
    abbrev was : Heap
    was = x.top.held.part.cells

    abbrev cells : Heap
    cells = machine.with_cells x.top.held.part.cells base n

    abbrev heap : Heap
    heap = machine.with_cells x.turn.c.heap base n

    abbrev new : Stock
    new = record { cells = fresh_cells base n; guards = no_guards }

    abbrev more : Stock
    more =
        both p.program (part_stock x.top.held.part)
        (record { cells = fresh_cells base n; guards = no_guards })

    free : (int_le (pos 1) base ≡ true) × (are_free x.turn.c.heap base n ≡ true)
    free = both-true (int_le (pos 1) base) (are_free x.turn.c.heap base n) may

    up : pos 1 ≤ℤ base
    up = let e = free.0 in grind (arith, ints)

    free-there : are_free x.top.held.part.cells base n ≡ true
    free-there =
        free-within x.turn.c.heap was base n
        (λ a z. (let i = (scene p (own p trees x)).cells a z in omega (arith, i))) free.1

    with-more :
        (a z : ℤ) → cells_of cells a z ≡ cells_of x.top.held.part.cells a z + fresh_cells base n a z
    with-more = allocated was base n free-there

    same : more ≡ part_stock (record x.top.held.part { cells = cells })
    same i = record {
      cells = λ a z. sym (with-more a z) i;
      guards = λ m. free-right p.program ((part x).guards m) i;
    }

    abbrev g : Frame
    g = with_value (with_rest x.turn.frame b) y base

    abbrev before : Tied p trees (part x) (V x) (fixed x)
        (with_rest x.turn.frame (first l (alloc y n) b)) x.top
    before = tied-before x (first l (alloc y n) b) is

    less :
        (U : Table) → Relies p.program more.guards (V x) U →
        Relies p.program (part x).guards (V x) U
    less U r =
        relies-less p.program (part x).guards more.guards (V x) U
        (inside-guards p.program (part x) more (inside-first p.program (part x) new)) r

    abbrev size : length (fixed x) ≡ length before.stood.fn.fixed
    size = values-length before.stood.fn.fixed (fixed x) before.stood.ok.values

    abbrev on_at : (U : Table) (r : Relies p.program (part x).guards (V x) U) →
        LedFresh p trees U before.stood.fn (fixed x) (part x) x.turn.frame l b y n base up size
        (before.stood.all U r).tree (before.stood.all U r).at_node
    on_at U r =
        alloc-on p trees U before.stood.fn (fixed x) (part x) x.turn.frame l b y n base up size
        (before.stood.all U r).tree (before.stood.all U r).at_node

    abbrev tied : Tied p trees more (V x) (fixed x) g (now x (Alloc base))
    tied =
        tied-on p trees (part x) more (V x) (fixed x)
        (with_rest x.turn.frame (first l (alloc y n) b)) g x.top (Alloc base) before
        (ok-store p.program before.stood.fn (fixed x)
        (with_rest x.turn.frame (first l (alloc y n) b)) y base b before.stood.ok
        (point-act p.program before.stood.fn l (alloc y n) b before.stood.ok.point).0.low
        (point-next p.program before.stood.fn l (alloc y n) b before.stood.ok.point)) less
        (λ U r. (on_at U r).led_on)

    abbrev here : Relies p.program more.guards (V x) (V x)
    here = relies-same p.program more.guards (V x)

    brought :
        (q : Place) (w : Walk) →
        IsAtNode p trees x.track.regions more (V x) before.stood.fn (fixed x) g
        (tied.stood.all (V x) here) q w → (a : ℤ) →
        (get was a ≡ get cells a)
        ⊎ IsCellAt (valuation w.values) a (tied.stood.all (V x) here).at_node.state.cells
    brought q w at a =
        let node = (tied.stood.all (V x) here).at_node in
        elim (new-or-old was base n a) [
          | inl e ↦ inl e
          | inr m ↦
              inr (subst (λ z. IsCellAt (valuation w.values) z node.state.cells) m.2
              (cell-alike node.state node.v (valuation w.values) at.alike (base +ℤ pos m.0)
              node.state.cells node.grounded.meets.cells_over
              ((on_at (V x) (less (V x) here)).brings m.0 m.1)))
        ]

    fresh-kept :
        GoesKept p trees x (sets (spot_of x.turn) heap b y base (Alloc base))
    fresh-kept =
        local-kept p trees stable x heap cells g (Alloc base)
        (subst (λ q. Tied p trees q (V x) (fixed x) g (now x (Alloc base))) same tied)
        (subst (λ q. Recells (part x) q x.turn.c.heap heap) same
        (recells-fresh p (own p trees x) base n free.1)) refl (λ hss lefts h. h) (λ b. tt)
        refl refl
        (keeps-told p trees more (V x) (fixed x) g (now x (Alloc base)) cells x.track.regions tied
        (λ a z. (let i = with-more a z in omega (arith, i))) (track-tells x.track) brought)

  pub allocs-kept :
      EachTurn p trees (λ x l b. (y n : ℕ) (base : ℤ) →
      DoesKept p trees x l (alloc y n) b (Some base))
  allocs-kept x l b y n base is = by (may_be_at x.turn.c.heap base n) refl
    where
      by :
          (t : Bool) → may_be_at x.turn.c.heap base n ≡ t →
          GoesKept p trees x
          (if t then sets (spot_of x.turn) (machine.with_cells x.turn.c.heap base n) b y base
          (Alloc base)
          else disabled)
      by false t = tt
      by true t = fresh-kept x l b y n base is t
