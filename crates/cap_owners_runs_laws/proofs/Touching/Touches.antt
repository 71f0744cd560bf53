-- A statement that reads, writes, swaps, adds or disposes keeps the track.
use Rattle.std.proofs.Common.{◌≡◌, inl, inr, ℕ, ◌+◌, ◌≤◌, ℤ, pos, ◌+ℤ◌, ◌<ℤ◌, true, List, [], ◌∷◌, ◌++◌, length, map, Option, Some, None, refl, sym, ap, ◌∙◌, subst, arith}
use Rattle.std.specs.Prelude.{slice_set}
use Rattle.std.specs.List.{AllByRecursion}
use Rattle.std.specs.FinMap.{get}
use Rattle.std.proofs.lemmas.Int.{ints}
use Rattle.cap_lin.specs.Linear.{Linear}
use Rattle.cap_lin.specs.Values.{value}
use Rattle.cap_farkas.specs.declared.cert.Cert.{Cert}
use Rattle.cap_prog.specs.Program.{PlainProgram, Label, PlainAct, Block, first, PlainFunction}
use Rattle.cap_prog.specs.WellFormed.{IsWellFormed}
use Rattle.cap_goal_spec.specs.States.{PlainFact, PlainState, Home, goal}
use Rattle.cap_goal_spec.specs.Choices.{PlainTree, node, by_act, PlainTrees, no_trees, tree}
use Rattle.cap_rules.specs.Closing.{address_of}
use Rattle.cap_rules.specs.Valid.{Valid}
use Rattle.cap_machine.specs.Machine.{Heap, Frame, next, top_frame, value_in, with_rest}
use Rattle.cap_machine_accounts.specs.Parts.{Part}
use Rattle.cap_machine_accounts.specs.Assertions.{NameValue}
use Rattle.cap_account_resources.specs.Parts.{one_cell, cells_of, Table}
use Rattle.cap_account_resources.proofs.Lists.{Among, map-length}
use Rattle.cap_account_resources.proofs.Interference.{relies-same}
use Rattle.cap_account_resources.proofs.Owners.{Numbered, owned}
use Rattle.cap_account_resources.proofs.Stocks.{Stock, both, all_of, Inside, inside-same, inside-trans, inside-both}
use Rattle.cap_account_resources.proofs.Tables.{new_guards, fits-less}
use Rattle.cap_account_states.proofs.Backed.{Backed}
use Rattle.cap_account_states.proofs.Checked.{Checked}
use Rattle.cap_account_states.proofs.Roots.{values-length}
use Rattle.cap_account_assertions.proofs.GiveLaw.{given-along}
use Rattle.cap_account_assertions.proofs.TakeConvert.{taken-always}
use Rattle.cap_account_assertions.proofs.Laws.{TakenLaw, GivenAlongLaw}
use Rattle.cap_account_steps.proofs.Acts.{act_number}
use Rattle.cap_account_steps.proofs.Clashing.{clash-law}
use Rattle.cap_account_steps.proofs.HeapLaws.{ClashLaw}
use Rattle.cap_account_steps.proofs.Regained.{Stable}
use Rattle.cap_account_steps.proofs.Statements.{Statements}
use Rattle.cap_account_steps.proofs.Stores.{Store, running}
use Rattle.cap_account_steps.proofs.Worlds.{World, regions_of, Opening, SettlesBy, opened_table, after_act, new_content, recelled, HeapStep}
use Rattle.cap_account.proofs.Ordinary.{before-act}
use Rattle.cap_account.proofs.Stocked.{part_stock, owners, share_by, account_table, Turn}
use Rattle.cap_account.proofs.Touching.{Outcome}
use Rattle.cap_owners_spec.specs.Traced.{Traced, traced, past_width, untold, ◌>>=◌, valuation}
use Rattle.cap_owners_spec.specs.Track.{Fill, TrackedRegion, TrackedFrame, Track, account_of}
use Rattle.cap_owners_spec.specs.Walks.{Walk, Halt, stands}
use Rattle.cap_owners_spec.specs.Steps.{Proved, Scene, interpreted, walk_of, seated, standing, moved, after_move, followed}
use Rattle.cap_owners_laws.specs.Owned.{IsTold, GoesOver}
use Rattle.cap_owners_walks_laws.proofs.Fills.Drawn.{Tells}
use Rattle.cap_owners_walks_laws.proofs.Passes.Rests.{walks_into}
use Rattle.cap_owners_walks_laws.proofs.Passes.Takes.{owner_of}
use Rattle.cap_owners_walks_laws.proofs.Regions.ActCloses.{regions-then}
use Rattle.cap_owners_walks_laws.proofs.Regions.ClosesAll.{renewed}
use Rattle.cap_owners_walks_laws.proofs.Regions.Open.{TellsOpen, numbers_in, AreAscending, all-told}
use Rattle.cap_owners_walks_laws.proofs.Regions.Regiven.{AreSorted}
use Rattle.cap_owners_runs_laws.proofs.Tracks.Saying.{track-tells}
use Rattle.cap_owners_runs_laws.proofs.Tracks.Seats.{Seat, seated_at, seat-tied}
use Rattle.cap_owners_runs_laws.proofs.Tracks.Steps.{TurnKept, GoesKept, EachTurn, DoesKept}
use Rattle.cap_owners_runs_laws.proofs.Tracks.Tied.{nodes_of, derivation, Tied, Kept}
use Rattle.cap_owners_runs_laws.proofs.Tracks.Turns.{own}
use Rattle.cap_owners_runs_laws.proofs.Touching.Doing.{DoesSo, does-so, ok-then}
use Rattle.cap_owners_runs_laws.proofs.Steps.Ordinary.{tied-before}
use Rattle.cap_owners_runs_laws.proofs.Touching.Regions.{CasesRooted, case-rooted}
use Rattle.cap_owners_runs_laws.proofs.Touching.Renewing.{numbered-ascending}
use Rattle.cap_owners_runs_laws.proofs.Steps.Standing.{with_part}
use Rattle.cap_owners_runs_laws.proofs.Touching.SeatPart.{seat-part}
use Rattle.cap_owners_runs_laws.proofs.Touching.ToAct.{world_of, numbers-low, to-act}
use Rattle.cap_owners_runs_laws.proofs.Touching.ToSeat as to_seat
use Rattle.cap_owners_runs_laws.proofs.Touching.Touched.{TouchedSo, touched-kept}

module _ (p : Checked) (trees : List (Option PlainTree)) (wf : IsWellFormed p.program)
    (ls : Statements p) (law : TakenLaw p) (along : GivenAlongLaw p) (clash : ClashLaw p)
    (stable : Stable p.program) (rooted : CasesRooted p trees)
    (x : TurnKept p trees) where
  abbrev d : Proved
  d = derivation p trees

  abbrev P : PlainProgram
  P = p.program

  abbrev turn : Turn p
  turn = own p trees x

  abbrev V : Table
  V = account_table (account_of x.track)

  abbrev share : ℤ → Stock
  share = share_by (owners (account_of x.track).regions)

  abbrev part : Stock
  part = part_stock x.top.held.part

  abbrev fixed : List NameValue
  fixed = x.top.held.fixed

  abbrev f : Frame
  f = x.turn.frame

  abbrev heap : Heap
  heap = x.turn.c.heap

  abbrev rs : List TrackedRegion
  rs = x.track.regions

  module _ (l : Label) (a : PlainAct) (b : Block) (t : Linear) (address : address_of a ≡ Some t)
      (tied : Tied p trees (part_stock x.top.held.part) (account_table (account_of x.track))
      x.top.held.fixed (with_rest x.turn.frame (first l a b)) x.top) (z : ℤ)
      (cell : get x.turn.c.heap (value_in x.turn.frame.store t) ≡ Some z)
      (o : DoesSo p (own p trees x) l a b t z) where
    abbrev fn : PlainFunction
    fn = tied.stood.fn

    abbrev size : length x.top.held.fixed ≡ length tied.stood.fn.fixed
    size = values-length tied.stood.fn.fixed x.top.held.fixed tied.stood.ok.values

    abbrev there : Scene
    there = record {
      frame = x.turn.frame;
      after = record {
        heap = o.heap;
        threads = slice_set x.turn.c.threads x.turn.thread (o.frame ∷ x.turn.below);
      };
      thread = x.turn.thread;
      top = x.top;
      below = x.below;
      regions = x.track.regions;
    }

    abbrev Ends : Type 0
    Ends = GoesKept p trees x (next there.after o.event)

    -- what is too wide ends the run
    wide-kept : moved (derivation p trees) there o.event ≡ past_width → Ends
    wide-kept e =
        let Q = λ (k : Track).
        GoesOver d x.turn.thread o.event x.turn.c there.after x.track k
        × Kept p trees there.after k in
        subst (IsTold Q)
        (sym ((λ i. followed d x.track x.turn.thread o.event there.after
        (top_frame (x.turn.has_frames i)) (x.has_frames i))
        ∙ ap (λ q. q >>= λ m. traced (after_move x.track x.turn.thread m)) e)) tt

    puts :
        (c y : ℤ) →
        cells_of o.heap c y + one_cell (value_in x.turn.frame.store t) z c y
        ≡ cells_of x.turn.c.heap c y
        + new_content (value_in x.turn.frame.store t) (after_act a x.turn.frame b z).0 c y
    puts =
        subst (λ (w : Option ℤ).
        (c y : ℤ) →
        cells_of o.heap c y + one_cell (value_in x.turn.frame.store t) z c y
        ≡ cells_of x.turn.c.heap c y + new_content (value_in x.turn.frame.store t) w c y)
        (sym (ap (λ (r : Option ℤ × Frame). r.0) o.is)) o.puts

    -- ---- where the walk comes to the act

    module _ (h : Home) (w : Walk) (regions_are : w.regions ≡ x.track.regions)
        (next_is : w.next ≡ pos (1 + length x.track.regions)) (fill : Option Fill)
        (vs : List NameValue) (s : PlainState)
        (op : Opening p.program V share part (valuation vs) s)
        (st : Store (valuation vs) s h fn fixed (with_rest f (first l a b))) (j : ℕ)
        (cs : List Cert) (ms : List (Option Cert)) (ks : PlainTrees)
        (valid : p.N (node (by_act j cs ms) ks) s (running (first l a b) h))
        (sorted : AreSorted s.sorts vs) (few : length s.opened ≤ 2) where
      abbrev ascending : AreAscending (numbers_in x.track.regions)
      ascending = numbered-ascending (pos 1) x.track.regions x.kept.numbered

      abbrev low : AllByRecursion (λ n. n <ℤ pos (1 + length x.track.regions))
          (numbers_in x.track.regions)
      low = numbers-low p trees wf along clash rooted x

      abbrev world_here : World p.program V share part heap
      world_here = world_of p trees wf along clash rooted x

      abbrev Here : Type 0
      Here = to_seat.AllHere p trees wf law V share part heap world_here fn fixed size f l a b h t
          address vs s op st j cs ms ks valid sorted z cell o.heap puts rs
          (pos (1 + length x.track.regions)) (track-tells x.track) ascending low

      abbrev C : ℤ
      C = to_seat.C p trees wf law V share part heap world_here fn fixed size f l a b h t
          address vs s op st j cs ms ks valid sorted z cell o.heap puts rs
          (pos (1 + length x.track.regions)) (track-tells x.track) ascending low

      seats :
          to_seat.SeatsSo p trees wf law V share part heap world_here fn fixed size f l a b h t
          address vs s op st j cs ms ks valid sorted z cell o.heap puts rs
          (pos (1 + length x.track.regions)) (track-tells x.track) ascending low
          (interpreted (derivation p trees)) w fill
          (walks_into true (interpreted (derivation p trees)) p.program
          (tree (node (by_act j cs ms) ks) no_trees) (goal s (running (first l a b) h) ∷ [])
          (record w { values = vs; events = o.event ∷ []; fill = fill }))
      seats =
          to_seat.act-seats p trees wf law V share part heap world_here fn fixed size f l a b h t
          address vs s op st j cs ms ks valid sorted z cell o.heap puts rs
          (pos (1 + length x.track.regions)) (track-tells x.track) ascending low
          (interpreted (derivation p trees)) w regions_are next_is fill o.event
          (o.child ∙ ap (act_number a f) (sym (to_seat.content-is p trees wf law V share part heap
          world_here fn fixed size f l a b h t address vs s op st j cs ms ks valid sorted z cell
          o.heap puts rs (pos (1 + length x.track.regions)) (track-tells x.track) ascending low)))

      content-is : C ≡ z
      content-is =
          to_seat.content-is p trees wf law V share part heap world_here fn fixed size f l a b h t
          address vs s op st j cs ms ks valid sorted z cell o.heap puts rs
          (pos (1 + length x.track.regions)) (track-tells x.track) ascending low

      then-regions :
          regions_of (valuation (to_seat.us p trees wf law V share part heap world_here fn fixed size f l a b h t
          address vs s op st j cs ms ks valid sorted z cell o.heap puts rs
          (pos (1 + length x.track.regions)) (track-tells x.track) ascending low)) (to_seat.d p trees wf law V share part heap world_here fn fixed size f l a b h t
          address vs s op st j cs ms ks valid sorted z cell o.heap puts rs
          (pos (1 + length x.track.regions)) (track-tells x.track) ascending low).t.opened
          ≡ regions_of (valuation vs) s.opened
      then-regions =
          regions-then p V share part fn fixed size f l a b h t address vs s op
          (to_seat.room p trees wf law V share part heap world_here fn fixed size f l a b h t
          address vs s op st j cs ms ks valid sorted z cell o.heap puts rs
          (pos (1 + length x.track.regions)) (track-tells x.track) ascending low) st j cs ms ks valid sorted

      abbrev walk_here : Traced Halt
      walk_here = walk_of (derivation p trees) true there o.event

      -- ---- where it comes to a seat

      module _ (y : Here) where
        abbrev U : Table
        U = y.by.U

        abbrev place : to_seat.SeatPlace p trees wf law V share part heap world_here fn fixed size f l a b h t
            address vs s op st j cs ms ks valid sorted z cell o.heap puts rs
            (pos (1 + length x.track.regions)) (track-tells x.track) ascending low y
        place = to_seat.seat-place p trees wf law V share part heap world_here fn fixed size f l a b h t
            address vs s op st j cs ms ks valid sorted z cell o.heap puts rs
            (pos (1 + length x.track.regions)) (track-tells x.track) ascending low y

        abbrev then_frame : Frame
        then_frame = (after_act a f b C).1

        abbrev seat : Seat p trees y.left y.by.U fn fixed then_frame (running then_frame.rest)
            place.place y.values
        seat = to_seat.seat-with p trees wf law V share part heap world_here fn fixed size f l a b h t
            address vs s op st j cs ms ks valid sorted z cell o.heap puts rs
            (pos (1 + length x.track.regions)) (track-tells x.track) ascending low y y.left y.known.closing.backed place

        abbrev regions_then : List TrackedRegion
        regions_then = renewed y.closed x.track.regions ++ y.made

        abbrev top_then : TrackedFrame
        top_then = record x.top { awaited = w.awaited }

        tells-then : Tells regions_then U
        tells-then =
            all-told regions_then U
            (subst (λ fs. TellsOpen (regions_of (valuation y.values) fs) regions_then U) y.none_open
            y.known.tells)

        printed :
            IsTold (λ g.
            (r : Part) × (g ≡ with_part (seated_at p trees top_then place.place y.values) r)
            × Backed p.program (valuation y.values) seat.state (part_stock r)
            × Inside p.program (part_stock r) y.left)
            (standing (derivation p trees) regions_then
            (seated_at p trees top_then place.place y.values))
        printed =
            seat-part p trees wf y.left U fn fixed then_frame y.known.fits y.known.closing.room
            place.place y.values seat regions_then tells-then o.heap y.known.cells top_then

        -- with the part that is printed
        module _ (r : Part)
            (backed : Backed p.program (valuation y.values) y.after (part_stock r))
            (inside : Inside p.program (part_stock r) y.left) where
          abbrev tied_then : Tied p trees (part_stock r) y.by.U fixed then_frame
              (seated_at p trees (with_part top_then r) place.place y.values)
          tied_then =
              seat-tied p trees wf (part_stock r) U fn fixed then_frame
              (ok-then p fn fixed f l b a t address tied.stood.ok C) y.known.fits
              (fits-less p.program U (part_stock r) y.left inside y.known.closing.room) place.place
              y.values (to_seat.seat-with p trees wf law V share part heap world_here fn fixed size f l a b h t
              address vs s op st j cs ms ks valid sorted z cell o.heap puts rs
              (pos (1 + length x.track.regions)) (track-tells x.track) ascending low y (part_stock r) backed place) tied.fits
              (with_part top_then r)

          abbrev W_here : Table
          W_here = opened_table (regions_of (valuation vs) s.opened) V

          abbrev held_here : Stock
          held_here =
              recelled
              (both p.program part (all_of p.program (regions_of (valuation vs) s.opened) share))
              (value_in f.store t) C (after_act a f b C).0

          abbrev by_then : SettlesBy p.program V W_here part held_here
              (regions_of (valuation vs) s.opened) (part_stock r)
          by_then =
              let same = then-regions in
              record {
                U = y.by.U;
                opened = y.by.opened;
                all_of_them = λ n i. y.by.all_of_them n (subst (Among n) (sym same) i);
                count = y.by.count ∙ ap length same;
                closed = y.by.closed;
                made = y.by.made;
                settles = y.by.settles;
                budget =
                    inside-trans P
                    (both P (part_stock r) (both P (owned P y.by.closed) (owned P y.by.made)))
                    (both P y.left (both P (owned P y.by.closed) (owned P y.by.made)))
                    (both P held_here (new_guards P W_here U))
                    (inside-both P (part_stock r) y.left
                    (both P (owned P y.by.closed) (owned P y.by.made))
                    (both P (owned P y.by.closed) (owned P y.by.made)) inside
                    (inside-same P (both P (owned P y.by.closed) (owned P y.by.made)))) y.by.budget;
              }

          abbrev heap_step : HeapStep p V share part heap fixed f a b t
          heap_step = record {
            content = C;
            is_cell = to_seat.is-cell p trees wf law V share part heap world_here fn fixed size f l a b h t
                address vs s op st j cs ms ks valid sorted z cell o.heap puts rs
                (pos (1 + length x.track.regions)) (track-tells x.track) ascending low;
            entered = regions_of (valuation vs) s.opened;
            differ = op.differ;
            there = to_seat.there p trees wf law V share part heap world_here fn fixed size f l a b h t
                address vs s op st j cs ms ks valid sorted z cell o.heap puts rs
                (pos (1 + length x.track.regions)) (track-tells x.track) ascending low;
            two =
                (let long = map-length (λ (g : PlainFact). value (valuation vs).whole g.region) s.opened in
                omega (arith, few, long));
            had = to_seat.had p trees wf law V share part heap world_here fn fixed size f l a b h t
                address vs s op st j cs ms ks valid sorted z cell o.heap puts rs
                (pos (1 + length x.track.regions)) (track-tells x.track) ascending low;
            kept = part_stock r;
            by = by_then;
            stands = tied_then.stood;
          }

          abbrev touched : TouchedSo p trees ls stable x a b t
          touched = record {
            step = heap_step;
            closed = y.closed;
            made = y.made;
            closed_are = y.closed_are;
            made_are = y.made_are;
            were_there = y.were_there;
            numbers = y.numbers;
            last = y.next_is;
            numbered =
                (let n = length rs in
                let same : pos (1 + n) ≡ pos 1 +ℤ pos n = omega (arith, ints) in
                subst (λ n. Numbered n (map owner_of y.made) y.next_is) same y.numbered);
            owned = y.owned;
            owned_made = y.owned_made;
            frame = with_part (seated_at p trees top_then place.place y.values) r;
            part_is = refl;
            fixed_is = refl;
            tied = tied_then;
          }

          abbrev outcome : Outcome p ls stable turn a b t heap_step
          outcome = record {
            heap = o.heap;
            content = o.content;
            frame = o.frame;
            is = ap (after_act a f b) content-is ∙ o.is;
            callee = o.callee;
            puts = subst (λ z.
                (c y : ℤ) →
                cells_of o.heap c y + one_cell (value_in f.store t) z c y
                ≡ cells_of heap c y + new_content (value_in f.store t) o.content c y) (sym content-is)
                o.puts;
          }

          part-kept :
              moved (derivation p trees) there o.event
              ≡ traced (record {
                frames = with_part (seated_at p trees top_then place.place y.values) r ∷ x.below;
                forked = None;
                regions = regions_then;
              }) →
              Ends
          part-kept e =
              touched-kept p trees ls stable x a b t touched outcome o.event o.at o.frames o.keeps e

        abbrev taken : Traced TrackedFrame
        taken =
            standing (derivation p trees) regions_then
            (seated_at p trees top_then place.place y.values)

        seat-kept :
            walk_of (derivation p trees) true there o.event
            ≡ traced (stands place.place (record w {
              values = y.values;
              next = y.next_is;
              regions = renewed y.closed x.track.regions ++ ([] ++ y.made);
              fill = fill;
              events = [];
            })) →
            Ends
        seat-kept e = by taken refl printed
          where
            comes :
                moved (derivation p trees) there o.event
                ≡ (taken >>= λ g. traced (record {
                  frames = g ∷ x.below;
                  forked = None;
                  regions = regions_then;
                }))
            comes =
                o.moves (derivation p trees) there
                ∙ ap (λ q. q >>= λ h. seated x.top h >>= λ k.
                standing (derivation p trees) k.1.regions k.0 >>= λ g.
                traced (record { frames = g ∷ x.below; forked = None; regions = k.1.regions })) e

            by :
                (q : Traced TrackedFrame) → taken ≡ q →
                IsTold (λ g.
                (r : Part) × (g ≡ with_part (seated_at p trees top_then place.place y.values) r)
                × Backed p.program (valuation y.values) seat.state (part_stock r)
                × Inside p.program (part_stock r) y.left) q →
                Ends
            by past_width q k =
                wide-kept (comes ∙ ap (λ q. q >>= λ g. traced (record {
                  frames = g ∷ x.below;
                  forked = None;
                  regions = regions_then;
                })) q)
            by untold q k = absurd k
            by (traced g) q k =
                part-kept k.0
                (subst (λ u. Backed p.program (valuation y.values) u (part_stock k.0))
                (to_seat.seat-state p trees wf law V share part heap world_here fn fixed size f l a b h t
                address vs s op st j cs ms ks valid sorted z cell o.heap puts rs
                (pos (1 + length x.track.regions)) (track-tells x.track) ascending low y y.left y.known.closing.backed place) k.2) k.3
                (comes
                ∙ ap (λ q. q >>= λ g. traced (record {
                  frames = g ∷ x.below;
                  forked = None;
                  regions = regions_then;
                })) q
                ∙ ap (λ g. traced (record {
                  frames = g ∷ x.below;
                  forked = None;
                  regions = regions_then;
                })) k.1)

      walk-wide : walk_of (derivation p trees) true there o.event ≡ past_width → Ends
      walk-wide e =
          wide-kept (o.moves (derivation p trees) there
          ∙ ap (λ q. q >>= λ h. seated x.top h >>= λ k.
          standing (derivation p trees) k.1.regions k.0 >>= λ g.
          traced (record { frames = g ∷ x.below; forked = None; regions = k.1.regions })) e)

      act-kept :
          walk_of (derivation p trees) true there o.event
          ≡ walks_into true (interpreted (derivation p trees)) p.program
          (tree (node (by_act j cs ms) ks) no_trees) (goal s (running (first l a b) h) ∷ [])
          (record w { values = vs; events = o.event ∷ []; fill = fill }) →
          Ends
      act-kept e = elim seats [
        | inl wide ↦ walk-wide (e ∙ wide)
        | inr k ↦ seat-kept k.0 (e ∙ k.1)
      ]

    -- the walk from the frame's tie
    does-kept : Ends
    does-kept =
        elim (to-act p trees wf along clash rooted x l a b t address tied o.event) [
          | inl wide ↦
              wide-kept (o.moves (derivation p trees) there
              ∙ ap (λ q. q >>= λ h. seated x.top h >>= λ k.
              standing (derivation p trees) k.1.regions k.0 >>= λ g.
              traced (record { frames = g ∷ x.below; forked = None; regions = k.1.regions })) wide)
          | inr k ↦
              let n = k.from in
              act-kept k.home k.w k.regions k.next k.fill n.values n.state n.opening n.store n.number
              n.certs n.marks n.kids n.valid n.sorted n.few k.walks
        ]

  touch-kept :
      (l : Label) (a : PlainAct) (b : Block) (t : Linear) → address_of a ≡ Some t →
      DoesKept p trees x l a b None
  touch-kept l a b t address is =
      let tied = tied-before p trees stable x (first l a b) is in
      let ok = tied.stood.ok in
      let h = ls.heaps V share part heap tied.stood.fn fixed f l a b t address
      (world_of p trees wf along clash rooted x)
      (ok-then p tied.stood.fn fixed f l b a t address tied.stood.ok)
      (before-act p turn l a b tied.stood V (relies-same P part.guards V)) in
      let o = does-so p turn l a b t address h.content h.is_cell in
      subst (GoesKept p trees x) (sym o.does_is)
      (does-kept l a b t address tied h.content h.is_cell o)

-- of a valid derivation each keeps the track
pub touches-are-kept :
    (program : PlainProgram) (trees : List (Option PlainTree)) → IsWellFormed program →
    Valid program trees → Stable program → Statements (nodes_of program trees) →
    EachTurn (nodes_of program trees) trees (λ x l b. (a : PlainAct) (t : Linear) →
    address_of a ≡ Some t → DoesKept (nodes_of program trees) trees x l a b None)
touches-are-kept program trees well valid stable ls x l b a t address =
    let p = nodes_of program trees in
    touch-kept p trees well ls (taken-always p well.regions) (given-along p) (clash-law p) stable
    (case-rooted program trees valid) x l a b t address
