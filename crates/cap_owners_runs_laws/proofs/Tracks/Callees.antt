-- A callee as the track begins it: it is tied to its walk from the body's root, where what it was
-- handed is met again.
use Rattle.std.proofs.Common.{◌≡◌, inr, false, ℕ, ℤ, List, [], ◌++◌, map, length, Option, Some, refl, sym, ap, ◌∙◌, subst}
use Rattle.std.specs.Prelude.{slice_get, if◌then◌else◌}
use Rattle.std.specs.List.{AllZip}
use Rattle.cap_prog.specs.Program.{PlainFunction, PlainProgram}
use Rattle.cap_prog.specs.Scopes.{requires_scope}
use Rattle.cap_prog.specs.WellFormed.{IsWellFormed}
use Rattle.cap_goal_spec.specs.Choices.{PlainTree}
use Rattle.cap_goal_spec.specs.Roots.{function_unit, at_entry, home_of, optional_roots}
use Rattle.cap_rules.specs.Valid.{Valid}
use Rattle.cap_machine.specs.declared.event.Event.{Event}
use Rattle.cap_machine.specs.Machine.{new_frame}
use Rattle.cap_machine_accounts.specs.Parts.{no_part}
use Rattle.cap_machine_accounts.specs.Assertions.{NameValue, a_number, ValuesFit}
use Rattle.cap_account_resources.specs.Parts.{Table}
use Rattle.cap_account_resources.proofs.Interference.{Relies}
use Rattle.cap_account_resources.proofs.Stocks.{Stock}
use Rattle.cap_account_assertions.proofs.Asserted.{OwnsRequires}
use Rattle.cap_account_steps.proofs.Frames.{Roomy}
use Rattle.cap_account_steps.proofs.Stores.{running}
use Rattle.cap_owners_spec.specs.Traced.{traced, ◌>>=◌, found}
use Rattle.cap_owners_spec.specs.Track.{Fill, Place, TrackedRegion, GivenAssertion, TrackedFrame}
use Rattle.cap_owners_spec.specs.Steps.{Proved, root_at, begins_at, filled_again, fixed_values, requires_root, body_root, callee_of, frame_walk}
use Rattle.cap_owners_laws.specs.Owned.{IsTold}
use Rattle.cap_owners_walks_laws.proofs.Values.Numbers.{was-traced, traced-same}
use Rattle.cap_owners_walks_laws.proofs.Values.More.{FitsSort}
use Rattle.cap_owners_walks_laws.proofs.Fills.Amounts.{items_drawn}
use Rattle.cap_owners_walks_laws.proofs.Fills.Drawn.{IsMetOr, Tells}
use Rattle.cap_owners_walks_laws.proofs.Fills.Giving.{NamesFit}
use Rattle.cap_owners_walks_laws.proofs.Fills.Still.{met-now}
use Rattle.cap_owners_runs_laws.proofs.Tracks.Tied.{StopsSo, nodes_of, Tied, HasJust}
use Rattle.cap_owners_walks_laws.proofs.Walks.Rooted.{function-rooted}
use Rattle.cap_owners_runs_laws.proofs.Tracks.Rooting.{is-root}
use Rattle.cap_owners_runs_laws.proofs.Tracks.Bodies.{entered, RequiresAgain, body-tied, body-has}
use Rattle.cap_owners_runs_laws.proofs.Tracks.First.{found-is, gives-goal}

-- ---- how a frame begins

-- at a root of the derivation, with these values, and handed this
pub record Begins (d : Proved) (n stability root : ℕ) (vs fixed : List NameValue) (x : Fill)
    (since : List Event) (t : TrackedFrame) : Type 0 where
  pub seat : Place
  pub is_seat : root_at d (function_unit n) root ≡ Some seat
  pub is : t ≡ record {
    held = record { part = no_part; fixed = fixed };
    seat = seat;
    values = vs;
    given = Some (record {
      stability = root_at d (function_unit n) stability;
      values = vs;
      fill = x;
    });
    since = since;
    awaited = 0;
  }

pub begins-so :
    (d : Proved) (n stability root : ℕ) (vs fixed : List NameValue) (x : Fill)
    (since : List Event) (t : TrackedFrame) →
    begins_at d n stability root vs fixed x since ≡ traced t →
    Begins d n stability root vs fixed x since t
begins-so d n stability root vs fixed x since t e =
    let q = was-traced (found (root_at d (function_unit n) root)) _ t e in
    record {
      seat = q.0;
      is_seat = found-is (root_at d (function_unit n) root) q.0 q.1;
      is = sym (traced-same _ t q.2);
    }

-- ---- callees

module _ (program : PlainProgram) (trees : List (Option PlainTree)) (well : IsWellFormed program)
    (valid : Valid program trees) (n : ℕ) (g : PlainFunction)
    (is_g : slice_get program.functions n ≡ Some g) (args : List ℤ) (destination : Option ℕ)
    (count : length args ≡ g.params) (x : Fill) (fit : ValuesFit g.fixed (fixed_values g x))
    (fits : AllZip FitsSort g.fixed (fixed_values g x)) (part : Stock) (T : Table)
    (roomy : Roomy program T part) where
  abbrev d : Proved
  d = record { program = program; trees = trees }

  abbrev fixed : List NameValue
  fixed = fixed_values g x

  -- what it was handed
  abbrev pub handed_to : GivenAssertion
  handed_to = record {
    stability =
        root_at (record { program = program; trees = trees }) (function_unit n) requires_root;
    values = map a_number args ++ fixed_values g x;
    fill = x;
  }

  -- by this table `requires` is met again by what that comes to
  abbrev pub CalleeAgain : Table → Type 0
  CalleeAgain U =
      RequiresAgain (nodes_of program trees) trees well n g is_g args (fixed_values g x)
      destination count fit fits part U handed_to

  -- it begins at the root of its body, which a valid derivation has
  pub callee-begins :
      (t : TrackedFrame)
      × (callee_of (record { program = program; trees = trees })
      (Some (new_frame n g args destination)) x
      ≡ traced t)
      × (t.held.fixed ≡ fixed_values g x)
  callee-begins =
      let s = entered (nodes_of program trees) trees well n g is_g args fixed destination count fit
      fits part in
      let k = gives-goal s g.requires (home_of at_entry g n) g.body in
      let r = function-rooted program trees valid n g is_g body_root k.0
      (ap (λ o. slice_get (optional_roots o n) 2) is_g ∙ ap Some k.1) in
      let begin : Place → List NameValue → TrackedFrame = λ (q : Place) (zs : List NameValue). record {
        held = record { part = no_part; fixed = zs };
        seat = q;
        values = map a_number args ++ zs;
        given = Some (record {
          stability = root_at d (function_unit n) requires_root;
          values = map a_number args ++ zs;
          fill = x;
        });
        since = [];
        awaited = 0;
      } in (
        begin (record { goal = k.0; tree = r.tree }) fixed,
        ap (λ (o : Option PlainFunction). found o >>= λ (f : PlainFunction).
            begins_at d n requires_root body_root (map a_number args ++ fixed_values f x)
            (fixed_values f x) x []) is_g
            ∙ ap (λ (o : Option Place). found o >>= λ (q : Place). traced (begin q fixed)) r.is_root,
        refl,
      )

  pub callee-tied :
      ((U : Table) → Relies program part.guards T U → CalleeAgain U) → (t : TrackedFrame) →
      callee_of (record { program = program; trees = trees })
      (Some (new_frame n g args destination)) x
      ≡ traced t →
      Tied (nodes_of program trees) trees part T (fixed_values g x)
      (new_frame n g args destination) t
  callee-tied again t e =
      let p = nodes_of program trees in
      let vs = map a_number args ++ fixed in
      let found_g = ap (λ (o : Option PlainFunction). found o >>= λ (f : PlainFunction).
      begins_at d n requires_root body_root (map a_number args ++ fixed_values f x)
      (fixed_values f x) x []) is_g in
      let b = begins-so d n requires_root body_root vs fixed x [] t (sym found_g ∙ e) in
      let s = entered p trees well n g is_g args fixed destination count fit fits part in
      let h = home_of at_entry g n in
      let k = gives-goal s g.requires h g.body in
      let start : TrackedFrame = record {
        held = record { part = no_part; fixed = fixed };
        seat = b.seat;
        values = vs;
        given = Some handed_to;
        since = [];
        awaited = 0;
      } in
      subst (λ (u : TrackedFrame). Tied p trees part T fixed (new_frame n g args destination) u)
      (sym b.is)
      (body-tied p trees well n g is_g args fixed destination count fit fits part T roomy b.seat
      (is-root program trees valid n g is_g body_root s g.requires (running g.body h) k.0 k.1
      (ap (λ o. slice_get (optional_roots o n) 2) is_g) b.seat b.is_seat) handed_to again
      start refl)

  -- where it was handed just what its `requires` draws, which is met so, its state has just that
  pub callee-has :
      (own : OwnsRequires program T part g args (fixed_values g x)) →
      IsMetOr program T own.values g.requires part own.met.0 own.met.1 x →
      NamesFit (requires_scope g) x.names →
      items_drawn program T own.values g.requires part own.met.0 own.met.1 ≡ part →
      (t : TrackedFrame) →
      callee_of (record { program = program; trees = trees })
      (Some (new_frame n g args destination)) x
      ≡ traced t →
      (rs : List TrackedRegion) → Tells rs T →
      IsTold (StopsSo (HasJust (nodes_of program trees) trees part))
      (frame_walk (record { program = program; trees = trees }) false rs t t.since)
  callee-has own met have drawn t e rs tells =
      let p = nodes_of program trees in
      let vs = map a_number args ++ fixed in
      let found_g = ap (λ (o : Option PlainFunction). found o >>= λ (f : PlainFunction).
      begins_at d n requires_root body_root (map a_number args ++ fixed_values f x)
      (fixed_values f x) x []) is_g in
      let b = begins-so d n requires_root body_root vs fixed x [] t (sym found_g ∙ e) in
      let s = entered p trees well n g is_g args fixed destination count fit fits part in
      let h = home_of at_entry g n in
      let k = gives-goal s g.requires h g.body in
      let start : TrackedFrame = record {
        held = record { part = no_part; fixed = fixed };
        seat = b.seat;
        values = vs;
        given = Some handed_to;
        since = [];
        awaited = 0;
      } in
      subst (λ (u : TrackedFrame). IsTold (StopsSo (HasJust p trees part))
      (frame_walk d false rs u u.since)) (sym b.is)
      (body-has p trees well n g is_g args fixed destination count fit fits part T roomy.room b.seat
      (is-root program trees valid n g is_g body_root s g.requires (running g.body h) k.0 k.1
      (ap (λ o. slice_get (optional_roots o n) 2) is_g) b.seat b.is_seat) handed_to own (record {
        fill = x;
        met = met;
        have = have;
        comes = λ rs tells.
            inr (ap (λ c. (if c then traced x else filled_again d rs handed_to handed_to.stability)
            >>= λ (f : Fill). traced (Some f))
            (met-now program T own.values rs tells g.requires part own.met.0 own.met.1 x met.facts));
      }) drawn start rs tells)
