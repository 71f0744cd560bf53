-- What a frame that calls or forks hands over: the callee begins with just what was drawn for it,
-- and both stand with just their parts.
use Rattle.std.proofs.Common.{◌≡◌, ◌⊎◌, inl, inr, ℕ, ◌≤◌, ℤ, List, ◌++◌, map, length, Option, Some, refl, sym, ap, ◌∙◌, subst, arith}
use Rattle.std.specs.Prelude.{slice_get}
use Rattle.std.specs.List.{AllZip}
use Rattle.cap_lin.specs.Linear.{Linear}
use Rattle.cap_lin.specs.Values.{Valuation}
use Rattle.cap_prog.specs.Program.{Block, PlainFunction, PlainProgram}
use Rattle.cap_prog.specs.Scopes.{fixed_start}
use Rattle.cap_prog.specs.WellFormed.{IsWellFormed}
use Rattle.cap_goal_spec.specs.States.{Home, PlainTask}
use Rattle.cap_goal_spec.specs.Choices.{PlainTree}
use Rattle.cap_rules.specs.Valid.{Valid}
use Rattle.cap_rules.specs.Making.{env_at}
use Rattle.cap_machine.specs.Machine.{Frame, value_in, new_frame}
use Rattle.cap_machine_accounts.specs.Parts.{Part}
use Rattle.cap_machine_accounts.specs.Assertions.{NameValue, ValuesFit, AreNamed}
use Rattle.cap_account_resources.specs.Parts.{cells_of, Table}
use Rattle.cap_account_resources.proofs.Lists.{map-length}
use Rattle.cap_account_resources.proofs.Stocks.{Stock, both, Inside, inside-trans, inside-second}
use Rattle.cap_account_states.proofs.Checked.{Checked}
use Rattle.cap_account_states.proofs.Naming.{values_in}
use Rattle.cap_account_assertions.proofs.Asserted.{OwnsRequires}
use Rattle.cap_account_steps.proofs.Callees.{fixed-fit}
use Rattle.cap_account_steps.proofs.Frames.{Roomy}
use Rattle.cap_account_steps.proofs.Regained.{Stable}
use Rattle.cap_account.proofs.Changes.{roomy}
use Rattle.cap_account.proofs.Handing.{cut-roomy}
use Rattle.cap_account.proofs.Stocked.{part_stock, account_table, Turn}
use Rattle.cap_account.proofs.Strides.{handing, left-all}
use Rattle.cap_account.proofs.Successors.{scene as account_scene, Stride, all}
use Rattle.cap_owners_spec.specs.Traced.{Traced, traced, past_width, untold, ◌>>=◌, found}
use Rattle.cap_owners_spec.specs.Track.{Fill, TrackedRegion, TrackedFrame, account_of}
use Rattle.cap_owners_spec.specs.Walks.{Halt}
use Rattle.cap_owners_spec.specs.Steps.{Proved, fixed_values, callee_of, standing, seated, Handed}
use Rattle.cap_owners_laws.specs.Owned.{IsTold}
use Rattle.cap_owners_walks_laws.proofs.Values.More.{FitsSort}
use Rattle.cap_owners_runs_laws.proofs.Tracks.Callees.{callee-begins, callee-tied, callee-has}
use Rattle.cap_owners_runs_laws.proofs.Tracks.Saying.{track-tells}
use Rattle.cap_owners_runs_laws.proofs.Tracks.Steps.{TurnKept}
use Rattle.cap_owners_runs_laws.proofs.Tracks.Tied.{nodes_of, Tied}
use Rattle.cap_owners_runs_laws.proofs.Tracks.Turns.{own as own_turn}
use Rattle.cap_owners_runs_laws.proofs.Tracks.Waiting.{fixed-sorted}
use Rattle.cap_owners_runs_laws.proofs.Handing.CallSites.{CallingHere}
use Rattle.cap_owners_runs_laws.proofs.Handing.CallTakes.{Taken_here, own, given, meets, over, callee_names, fill-met, all-given, fill-fits, inside-given, tells-then}
use Rattle.cap_owners_runs_laws.proofs.Handing.CallSeats.{left-within}
use Rattle.cap_owners_runs_laws.proofs.Steps.Renewed.{callee-again}
use Rattle.cap_owners_runs_laws.proofs.Steps.Standing.{with_part, StandsWith, stands-just}

-- ---- what is handed over

-- a caller and a callee that stand with just these parts, and these regions
pub record HandsSo (c0 b0 : TrackedFrame) (left gave : Stock) (regions : List TrackedRegion)
    (o : Traced Handed) : Type 0 where
  pub caller_part : Part
  pub callee_part : Part
  pub caller_has : part_stock caller_part ≡ left
  pub callee_has : part_stock callee_part ≡ gave
  pub is :
      o
      ≡ traced (record {
        caller = with_part c0 caller_part;
        callee = with_part b0 callee_part;
        regions = regions;
      })

-- both stand, and what they stand with is handed over
abbrev pub both_stand :
    Proved → Option Frame → Fill → List TrackedRegion → TrackedFrame → Traced Handed
both_stand d m x regions c0 = do
  caller ← standing d regions c0
  begun ← callee_of d m x
  callee ← standing d regions begun
  traced (record { caller = caller; callee = callee; regions = regions })

-- from the caller on, and from both
abbrev ends_with : List TrackedRegion → TrackedFrame → Traced TrackedFrame → Traced Handed
ends_with regions k o = o >>= λ y. traced (record { caller = k; callee = y; regions = regions })

abbrev rest_of :
    Proved → Option Frame → Fill → List TrackedRegion → TrackedFrame → Traced Handed
rest_of d m x regions k =
    callee_of d m x >>= λ begun. ends_with regions k (standing d regions begun)

pub hands-or :
    (d : Proved) (m : Option Frame) (x : Fill) (regions : List TrackedRegion)
    (c0 b0 : TrackedFrame) (left gave : Stock) → callee_of d m x ≡ traced b0 →
    IsTold (StandsWith c0 left) (standing d regions c0) →
    IsTold (StandsWith b0 gave) (standing d regions b0) →
    (both_stand d m x regions c0 ≡ past_width)
    ⊎ HandsSo c0 b0 left gave regions (both_stand d m x regions c0)
hands-or d m x regions c0 b0 left gave e one other =
    by (standing d regions c0) (standing d regions b0) refl refl one other
  where
    same :
        (k : TrackedFrame) → rest_of d m x regions k ≡ ends_with regions k (standing d regions b0)
    same k = ap (λ o. o >>= λ begun. ends_with regions k (standing d regions begun)) e

    by :
        (o q : Traced TrackedFrame) → standing d regions c0 ≡ o → standing d regions b0 ≡ q →
        IsTold (StandsWith c0 left) o → IsTold (StandsWith b0 gave) q →
        (both_stand d m x regions c0 ≡ past_width)
        ⊎ HandsSo c0 b0 left gave regions (both_stand d m x regions c0)
    by past_width q i j h k = inl (ap (λ o. o >>= rest_of d m x regions) i)
    by untold q i j h k = absurd h
    by (traced u) past_width i j h k =
        inl (ap (λ o. o >>= rest_of d m x regions) i ∙ same u ∙ ap (ends_with regions u) j)
    by (traced u) untold i j h k = absurd k
    by (traced u) (traced v) i j h k = inr (record {
      caller_part = h.0;
      callee_part = k.0;
      caller_has = h.2;
      callee_has = k.2;
      is =
          ap (λ o. o >>= rest_of d m x regions) i
          ∙ same u
          ∙ ap (ends_with regions u) j
          ∙ (λ l. traced (record { caller = h.1 l; callee = k.1 l; regions = regions }));
    })

module _ (program : PlainProgram) (trees : List (Option PlainTree)) (well : IsWellFormed program)
    (valid : Valid program trees) (stable : Stable program)
    (x : TurnKept (nodes_of program trees) trees) where
  abbrev p : Checked
  p = nodes_of program trees

  abbrev d : Proved
  d = record { program = program; trees = trees }

  abbrev turn : Turn (nodes_of program trees)
  turn = own_turn (nodes_of program trees) trees x

  abbrev f : Frame
  f = x.turn.frame

  abbrev fixed : List NameValue
  fixed = x.top.held.fixed

  abbrev part : Stock
  part = part_stock x.top.held.part

  abbrev T : Table
  T = account_table (account_of x.track)

  abbrev rs : List TrackedRegion
  rs = x.track.regions

  pub room-now : Roomy program T part
  room-now = roomy program (account_scene p turn)

  pub within-now : (a z : ℤ) → part.cells a z ≤ cells_of x.turn.c.heap a z
  within-now a z = let i = (account_scene p turn).cells a z in omega (arith, i)

  -- ---- the callee

  module _ (r0 : Block) (number n : ℕ) (args : List Linear) (y : Option ℕ)
      (due : PlainFunction → ℕ → Home → List PlainTask) (fn : PlainFunction) (o : Traced Halt)
      (h : CallingHere p trees part T fn fixed f r0 number n args y due rs o)
      (t : Taken_here p trees well part T room-now fn fixed f r0 number n args y due rs
      (track-tells x.track) x.kept.numbered x.turn.c.heap within-now o h)
      (names :
      fixed_values h.g t.taken.fill
      ≡ callee_names p trees well part T room-now fn fixed f r0 number n args y due rs
      (track-tells x.track) x.kept.numbered x.turn.c.heap within-now o h t) where
    abbrev U : Table
    U = t.took.U

    abbrev args_now : List ℤ
    args_now = map (value_in f.store) args

    abbrev pub zs : List NameValue
    zs = callee_names p trees well part T room-now fn fixed f r0 number n args y due rs
        (track-tells x.track) x.kept.numbered x.turn.c.heap within-now o h t

    abbrev pub left : Stock
    left = (own p trees well part T room-now fn fixed f r0 number n args y due rs
        (track-tells x.track) x.kept.numbered x.turn.c.heap within-now o h t).own

    abbrev pub gave : Stock
    gave = given p trees well part T room-now fn fixed f r0 number n args y due rs
        (track-tells x.track) x.kept.numbered x.turn.c.heap within-now o h t

    pub count : length args_now ≡ h.g.params
    count = map-length (value_in f.store) args ∙ h.size

    abbrev hands_out : Stride p turn
    hands_out = handing p turn left gave
        (over p trees well part T room-now fn fixed f r0 number n args y due rs
        (track-tells x.track) x.kept.numbered x.turn.c.heap within-now o h t)

    gave-all : Inside program gave (all p stable turn hands_out)
    gave-all =
        inside-trans program gave (both program left gave) (all p stable turn hands_out)
        (inside-second program left gave) (left-all p stable turn hands_out)

    gave-roomy : Roomy program U gave
    gave-roomy = cut-roomy p stable turn hands_out gave gave-all

    gave-within : (a z : ℤ) → gave.cells a z ≤ cells_of x.turn.c.heap a z
    gave-within =
        left-within program part gave T U x.turn.c.heap
        (inside-given p trees well part T room-now fn fixed f r0 number n args y due rs
        (track-tells x.track) x.kept.numbered x.turn.c.heap within-now o h t) within-now

    pub names-fit : ValuesFit h.g.fixed zs
    names-fit =
        fixed-fit (values_in t.took.w (env_at t.took.after (length h.state.envs)))
        (fixed_start h.g) h.g.fixed

    fit : ValuesFit h.g.fixed (fixed_values h.g t.taken.fill)
    fit = subst (ValuesFit h.g.fixed) (sym names) names-fit

    sorted : AllZip FitsSort h.g.fixed (fixed_values h.g t.taken.fill)
    sorted =
        subst (AllZip FitsSort h.g.fixed) (sym names)
        (fixed-sorted (values_in t.took.w (env_at t.took.after (length h.state.envs)))
        (fixed_start h.g) h.g.fixed (ap (λ (u : Valuation). u.fraction.under) t.valued))

    abbrev owns : OwnsRequires program U gave h.g args_now (fixed_values h.g t.taken.fill)
    owns =
        let m = meets p trees well part T room-now fn fixed f r0 number n args y due rs
        (track-tells x.track) x.kept.numbered x.turn.c.heap within-now o h t in
        record {
          values = m.values;
          args_are = m.args_are;
          fixed_are = subst (AreNamed m.values (fixed_start h.g)) (sym names) m.fixed_are;
          met = m.met;
        }

    -- it begins, tied to its walk, with just what was drawn for it
    pub record BeginsSo (destination : Option ℕ) : Type 0 where
      pub frame : TrackedFrame
      pub begins : callee_of d (Some (new_frame n h.g args_now destination)) t.taken.fill
          ≡ traced frame
      pub fixed_is : frame.held.fixed ≡ zs
      pub tied : Tied p trees gave U zs (new_frame n h.g args_now destination) frame
      pub stands : IsTold (StandsWith frame gave) (standing d (rs ++ t.made) frame)

    pub begun : (destination : Option ℕ) → BeginsSo destination
    begun destination =
        let b = callee-begins program trees well valid n h.g h.is_g args_now destination count
        t.taken.fill fit sorted gave U gave-roomy in
        let met = fill-met p trees well part T room-now fn fixed f r0 number n args y due rs
        (track-tells x.track) x.kept.numbered x.turn.c.heap within-now o h t in
        let have = fill-fits p trees well part T room-now fn fixed f r0 number n args y due rs
        (track-tells x.track) x.kept.numbered x.turn.c.heap within-now o h t in
        record {
          frame = b.0;
          begins = b.1;
          fixed_is = b.2 ∙ names;
          tied =
              subst (λ ns. Tied p trees gave U ns (new_frame n h.g args_now destination) b.0) names
              (callee-tied program trees well valid n h.g h.is_g args_now destination count
              t.taken.fill fit sorted gave U gave-roomy
              (λ W relies. callee-again program trees well valid stable n h.g h.is_g args_now
              destination count t.taken.fill fit sorted gave U gave-roomy x.turn.c.heap gave-within
              owns met have W relies) b.0 b.1);
          stands =
              stands-just p trees gave x.turn.c.heap gave-within b.0 (rs ++ t.made)
              (callee-has program trees well valid n h.g h.is_g args_now destination count
              t.taken.fill fit sorted gave U gave-roomy owns met have
              (all-given p trees well part T room-now fn fixed f r0 number n args y due rs
              (track-tells x.track) x.kept.numbered x.turn.c.heap within-now o h t) b.0 b.1
              (rs ++ t.made)
              (tells-then p trees well part T room-now fn fixed f r0 number n args y due rs
              (track-tells x.track) x.kept.numbered x.turn.c.heap within-now o h t));
        }

  -- where a walk stops there, this is handed over
  abbrev pub from_halt : Option Frame → Halt → Traced Handed
  from_halt m h = do
    z ← seated x.top h
    k ← found (slice_get z.1.taken 0)
    both_stand d m k.fill z.1.regions z.0
