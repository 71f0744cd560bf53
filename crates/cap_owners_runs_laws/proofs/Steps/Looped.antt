-- A turn of a loop as the track begins it: the frame is tied to its walk from the loop's root,
-- where what it was handed is met again.
use Rattle.std.proofs.Common.{◌≡◌, inr, false, ℕ, suc, ◌+◌, ◌*◌, List, [], ◌∷◌, ◌++◌, map, length, Option, Some, refl, sym, ap, ◌∙◌, subst, arith}
use Rattle.std.specs.Prelude.{slice_get, if◌then◌else◌}
use Rattle.std.specs.List.{AllZip}
use Rattle.cap_prog.specs.declared.assertion.Comp.{Comp}
use Rattle.cap_prog.specs.Program.{Items, none, item, PlainAssertion, Label, loop, Block, done, first, PlainFunction, PlainProgram}
use Rattle.cap_prog.specs.Scopes.{invariant_scope}
use Rattle.cap_prog.specs.WellFormed.{IsWellFormed}
use Rattle.cap_goal_spec.specs.States.{PlainState, Home, to_give, to_turn, PlainGoal, goal, goal_of}
use Rattle.cap_goal_spec.specs.Roots.{LoopPoint, function_unit, at_loop, home_of, from_given, loops_in, function_roots, optional_roots}
use Rattle.cap_goal_spec.specs.Choices.{PlainTree}
use Rattle.cap_rules.specs.Valid.{Valid}
use Rattle.cap_machine.specs.declared.event.Event.TheVariants.{Branch}
use Rattle.cap_machine.specs.Machine.{Frame, holds, with_rest}
use Rattle.cap_machine_accounts.specs.Parts.{no_part}
use Rattle.cap_machine_accounts.specs.Assertions.{NameValue, a_number}
use Rattle.cap_account_resources.specs.Parts.{Table}
use Rattle.cap_account_resources.proofs.Interference.{Relies}
use Rattle.cap_account_resources.proofs.Stocks.{Stock}
use Rattle.cap_account_states.proofs.Roots.{function-fits}
use Rattle.cap_account_assertions.proofs.Asserted.{OwnsInvariant}
use Rattle.cap_account_steps.proofs.Frames.{Roomy}
use Rattle.cap_account_steps.proofs.Points.{FrameOk, loop_point}
use Rattle.cap_owners_spec.specs.Traced.{traced, ◌>>=◌, found}
use Rattle.cap_owners_spec.specs.Track.{Fill, Place, TrackedRegion, GivenAssertion, TrackedFrame}
use Rattle.cap_owners_spec.specs.Steps.{Proved, root_at, begins_at, filled_again, invariant_root, loop_number, looping, frame_walk}
use Rattle.cap_owners_laws.specs.Owned.{IsTold}
use Rattle.cap_owners_walks_laws.proofs.Values.More.{FitsSort}
use Rattle.cap_owners_walks_laws.proofs.Values.Numbers.{was-traced}
use Rattle.cap_owners_walks_laws.proofs.Fills.Amounts.{items_drawn}
use Rattle.cap_owners_walks_laws.proofs.Fills.Drawn.{IsMetOr, Tells}
use Rattle.cap_owners_walks_laws.proofs.Fills.Giving.{NamesFit}
use Rattle.cap_owners_walks_laws.proofs.Fills.Still.{met-now}
use Rattle.cap_owners_walks_laws.proofs.Walks.Rooted.{function-rooted}
use Rattle.cap_owners_runs_laws.proofs.Tracks.Tied.{StopsSo, nodes_of, Tied, HasJust}
use Rattle.cap_owners_runs_laws.proofs.Tracks.Roots.{IsRoot}
use Rattle.cap_owners_runs_laws.proofs.Tracks.Rooting.{is-root}
use Rattle.cap_owners_runs_laws.proofs.Tracks.LoopRoots.{loop-at, loop-there, pair-at}
use Rattle.cap_owners_runs_laws.proofs.Tracks.First.{found-is}
use Rattle.cap_owners_runs_laws.proofs.Tracks.Callees.{begins-so}
use Rattle.cap_owners_runs_laws.proofs.Steps.Turned.{turned, behind_turn, InvariantAgain, turn-tied, turn-has}

-- what is given, and then a turn
gives-turn :
    (s : PlainState) (xs : Items) (h : Home) (b : Block) →
    (g : PlainGoal) × (goal_of s (to_give xs 0 0 ∷ to_turn h b ∷ []) ≡ Some g)
gives-turn s none h b = (goal s (to_turn h b ∷ []), refl)
gives-turn s (item i more) h b = (goal s (to_give (item i more) 0 0 ∷ to_turn h b ∷ []), refl)

-- the root of the loop that has this number
loop-root :
    (fn : PlainFunction) (n i : ℕ) (w : LoopPoint) → slice_get (loops_in fn.body done) i ≡ Some w →
    slice_get (function_roots fn n) (suc (invariant_root i))
    ≡ Some (from_given at_loop fn n (length w.invariant.names) w.invariant.items
    (to_turn (home_of at_loop fn n) w.block))
loop-root fn n i w at =
    let z : suc (3 + 2 * i) ≡ suc (suc (suc (suc (2 * i)))) = omega arith in
    ap (slice_get (function_roots fn n)) z ∙ pair-at fn n (loops_in fn.body done) i w at

module _ (program : PlainProgram) (trees : List (Option PlainTree)) (well : IsWellFormed program)
    (valid : Valid program trees) (fn : PlainFunction) (fixed : List NameValue) (f : Frame)
    (l : Label) (c : Comp) (inv : PlainAssertion) (body b : Block)
    (ok : FrameOk program fn fixed (with_rest f (first l (loop c inv body) b)))
    (fits : AllZip FitsSort fn.fixed fixed) (part : Stock) (T : Table)
    (roomy : Roomy program T part) (x : Fill) where
  abbrev d : Proved
  d = record { program = program; trees = trees }

  abbrev here : Block
  here = first l (loop c inv body) b

  -- what it was handed, where the loop is this one
  abbrev pub looped_with : ℕ → GivenAssertion
  looped_with i = record {
    stability =
        root_at (record { program = program; trees = trees }) (function_unit f.function)
        (invariant_root i);
    values = map a_number f.store ++ fixed;
    fill = x;
  }

  -- by this table the invariant is met again by what that comes to
  abbrev pub LoopedAgain : Table → Type 0
  LoopedAgain U =
      (i : ℕ) → loop_number fn (first l (loop c inv body) b) ≡ Some i →
      InvariantAgain (nodes_of program trees) trees well fn fixed f l c inv body b ok fits part U
      (looped_with i)

  -- a frame that begins at the root of this loop
  record BegunAt (i : ℕ) (t : TrackedFrame) : Type 0 where
    seat : Place
    is : t ≡ record {
      held = record { part = no_part; fixed = fixed };
      seat = seat;
      values = map a_number f.store ++ fixed;
      given = Some (looped_with i);
      since = Branch (holds f.store c) ∷ [];
      awaited = 0;
    }
    root :
        IsRoot (nodes_of program trees) trees seat
        (turned (nodes_of program trees) trees well fn fixed f l c inv body b ok fits part)
        (to_give inv.items 0 0
        ∷ to_turn (home_of at_loop fn f.function) (first l (loop c inv body) b) ∷ [])

  begun-at :
      (i : ℕ) → loop_number fn (first l (loop c inv body) b) ≡ Some i → (t : TrackedFrame) →
      begins_at (record { program = program; trees = trees }) f.function (invariant_root i)
      (suc (invariant_root i)) (map a_number f.store ++ fixed) fixed x
      (Branch (holds f.store c) ∷ [])
      ≡ traced t →
      BegunAt i t
  begun-at i is_loop t e =
      let n = f.function in
      let vs = map a_number f.store ++ fixed in
      let r = begins-so d n (invariant_root i) (suc (invariant_root i)) vs fixed x
      (Branch (holds f.store c) ∷ []) t e in
      let w = loop_point l c inv body b in
      let at = loop-at program fn l c inv body b ok.point
      (function-fits program well n fn ok.is_fn).body.numbered i is_loop in
      let s = turned (nodes_of program trees) trees well fn fixed f l c inv body b ok fits part in
      let h = home_of at_loop fn n in
      let g = gives-turn s inv.items h here in
      record {
        seat = r.seat;
        is = r.is;
        root =
            is-root program trees valid n fn ok.is_fn (suc (invariant_root i)) s inv.items
            (to_turn h here ∷ []) g.0 g.1
            (ap (λ o. slice_get (optional_roots o n) (suc (invariant_root i))) ok.is_fn
            ∙ loop-root fn n i w at) r.seat r.is_seat;
      }

  begun-tied :
      (i : ℕ) → loop_number fn (first l (loop c inv body) b) ≡ Some i →
      ((U : Table) → Relies program part.guards T U → LoopedAgain U) → (t : TrackedFrame) →
      BegunAt i t →
      Tied (nodes_of program trees) trees part T fixed
      (behind_turn (nodes_of program trees) trees well fn fixed f l c inv body b ok fits part) t
  begun-tied i is_loop again t r =
      let p = nodes_of program trees in
      let begun : TrackedFrame = record {
        held = record { part = no_part; fixed = fixed };
        seat = r.seat;
        values = map a_number f.store ++ fixed;
        given = Some (looped_with i);
        since = Branch (holds f.store c) ∷ [];
        awaited = 0;
      } in
      subst (λ (u : TrackedFrame). Tied p trees part T fixed
      (behind_turn p trees well fn fixed f l c inv body b ok fits part) u) (sym r.is)
      (turn-tied p trees well fn fixed f l c inv body b ok fits part T roomy r.seat r.root
      (looped_with i) (λ U q. again U q i is_loop) begun refl)

  -- by the loop that is found
  record LoopedAt (t : TrackedFrame) : Type 0 where
    i : ℕ
    is_loop : loop_number fn (first l (loop c inv body) b) ≡ Some i
    begun : BegunAt i t

  looped-at :
      (k t : TrackedFrame) → k.held.fixed ≡ fixed →
      looping (record { program = program; trees = trees })
      (with_rest f (first l (loop c inv body) b)) k (Branch (holds f.store c)) x
      ≡ traced t →
      LoopedAt t
  looped-at k t same e =
      let begins = λ (i : ℕ) (zs : List NameValue).
      begins_at d f.function (invariant_root i) (suc (invariant_root i))
      (map a_number f.store ++ zs) zs x (Branch (holds f.store c) ∷ []) in
      let found_fn = ap (λ (o : Option PlainFunction). found o >>= λ (g : PlainFunction).
      found (loop_number g here) >>= λ (i : ℕ). begins i k.held.fixed) ok.is_fn in
      let i = was-traced (found (loop_number fn here)) (λ i. begins i k.held.fixed) t
      (sym found_fn ∙ e) in
      let is_loop = found-is (loop_number fn here) i.0 i.1 in
      record {
        i = i.0;
        is_loop = is_loop;
        begun = begun-at i.0 is_loop t (ap (begins i.0) (sym same) ∙ i.2);
      }

  pub looped-tied :
      ((U : Table) → Relies program part.guards T U → LoopedAgain U) → (k t : TrackedFrame) →
      k.held.fixed ≡ fixed →
      looping (record { program = program; trees = trees })
      (with_rest f (first l (loop c inv body) b)) k (Branch (holds f.store c)) x
      ≡ traced t →
      Tied (nodes_of program trees) trees part T fixed
      (behind_turn (nodes_of program trees) trees well fn fixed f l c inv body b ok fits part) t
  looped-tied again k t same e =
      let at = looped-at k t same e in begun-tied at.i at.is_loop again t at.begun

  -- it begins there
  pub loop-begins :
      (k : TrackedFrame) → k.held.fixed ≡ fixed →
      (t : TrackedFrame)
      × (looping (record { program = program; trees = trees })
      (with_rest f (first l (loop c inv body) b)) k (Branch (holds f.store c)) x
      ≡ traced t)
      × (t.held.fixed ≡ fixed)
  loop-begins k same =
      let n = f.function in
      let es = Branch (holds f.store c) ∷ [] in
      let begins = λ (i : ℕ) (zs : List NameValue).
      begins_at d f.function (invariant_root i) (suc (invariant_root i))
      (map a_number f.store ++ zs) zs x es in
      let begin : ℕ → Place → TrackedFrame = λ (i : ℕ) (q : Place). record {
        held = record { part = no_part; fixed = fixed };
        seat = q;
        values = map a_number f.store ++ fixed;
        given = Some (looped_with i);
        since = es;
        awaited = 0;
      } in
      let i = loop-there program fn l c inv body b ok.point in
      let w = loop_point l c inv body b in
      let at = loop-at program fn l c inv body b ok.point
      (function-fits program well n fn ok.is_fn).body.numbered i.0 i.1 in
      let s = turned (nodes_of program trees) trees well fn fixed f l c inv body b ok fits part in
      let g = gives-turn s inv.items (home_of at_loop fn n) here in
      let r = function-rooted program trees valid n fn ok.is_fn (suc (invariant_root i.0)) g.0
      (ap (λ o. slice_get (optional_roots o n) (suc (invariant_root i.0))) ok.is_fn
      ∙ loop-root fn n i.0 w at
      ∙ ap Some g.1) in (
        begin i.0 (record { goal = g.0; tree = r.tree }),
        ap (λ (o : Option PlainFunction). found o >>= λ (g : PlainFunction).
            found (loop_number g here) >>= λ (i : ℕ). begins i k.held.fixed) ok.is_fn
            ∙ ap (λ (o : Option ℕ). found o >>= λ (i : ℕ). begins i k.held.fixed) i.1
            ∙ ap (begins i.0) same
            ∙ ap (λ (o : Option Place). found o >>= λ (q : Place). traced (begin i.0 q)) r.is_root,
        refl,
      )

  -- where it was handed just what its invariant draws, which is met so, its state has just that
  pub looped-has :
      (own : OwnsInvariant program T part fn f.store fixed inv) →
      IsMetOr program T own.values inv.items part own.met.0 own.met.1 x →
      NamesFit (invariant_scope fn inv.names) x.names →
      items_drawn program T own.values inv.items part own.met.0 own.met.1 ≡ part →
      (k t : TrackedFrame) → k.held.fixed ≡ fixed →
      looping (record { program = program; trees = trees })
      (with_rest f (first l (loop c inv body) b)) k (Branch (holds f.store c)) x
      ≡ traced t →
      (rs : List TrackedRegion) → Tells rs T →
      IsTold (StopsSo (HasJust (nodes_of program trees) trees part))
      (frame_walk (record { program = program; trees = trees }) false rs t t.since)
  looped-has own met have drawn k t same e rs tells =
      let p = nodes_of program trees in
      let at = looped-at k t same e in
      let handed = looped_with at.i in
      let r = at.begun in
      let begun : TrackedFrame = record {
        held = record { part = no_part; fixed = fixed };
        seat = r.seat;
        values = map a_number f.store ++ fixed;
        given = Some handed;
        since = Branch (holds f.store c) ∷ [];
        awaited = 0;
      } in
      subst (λ (u : TrackedFrame). IsTold (StopsSo (HasJust p trees part))
      (frame_walk d false rs u u.since)) (sym r.is)
      (turn-has p trees well fn fixed f l c inv body b ok fits part T roomy.room r.seat r.root handed
      own (record {
        fill = x;
        met = met;
        have = have;
        comes = λ rs tells.
            inr (ap (λ c. (if c then traced x else filled_again d rs handed handed.stability)
            >>= λ (f : Fill). traced (Some f))
            (met-now program T own.values rs tells inv.items part own.met.0 own.met.1 x met.facts));
      }) drawn begun rs tells)
