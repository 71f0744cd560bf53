-- Calls and forks: the track hands over what is taken for the callee, which begins with just that,
-- and the frame that called or forked stands with just what its state has then.
use Rattle.std.proofs.Common.{◌≡◌, inl, inr, ℕ, ◌≤◌, ℤ, true, List, [], ◌∷◌, ◌++◌, map, length, Option, Some, None, refl, sym, ap, ◌∙◌, subst}
use Rattle.std.specs.Prelude.{slice_get, slice_set, IsSomeAnd}
use Rattle.std.specs.List.{AllByRecursion}
use Rattle.cap_lin.specs.Linear.{Linear}
use Rattle.cap_prog.specs.Program.{Label, call, fork, Block, first, PlainFunction, PlainProgram}
use Rattle.cap_prog.specs.WellFormed.{IsWellFormed}
use Rattle.cap_goal_spec.specs.States.{Home, PlainTask}
use Rattle.cap_goal_spec.specs.Choices.{PlainTree}
use Rattle.cap_rules.specs.Valid.{Valid}
use Rattle.cap_machine.specs.Machine.{Frame, Configuration, top_frame, value_in, with_rest, new_frame, calls, forks}
use Rattle.cap_machine.specs.declared.event.Event.{Event}
use Rattle.cap_machine.specs.declared.event.Event.TheVariants.{Call, Fork}
use Rattle.cap_machine_accounts.specs.Assertions.{NameValue}
use Rattle.cap_account_resources.specs.Parts.{cells_of, Table}
use Rattle.cap_account_resources.proofs.Lists.{within as index-within, get-set-same, get-last, set-length}
use Rattle.cap_account_resources.proofs.Stocks.{Stock, both}
use Rattle.cap_account_states.proofs.Checked.{Checked}
use Rattle.cap_account_assertions.proofs.GiveLaw.{given-law}
use Rattle.cap_account_assertions.proofs.Laws.{GivenLaw, TakenLaw, RestsLaw}
use Rattle.cap_account_assertions.proofs.TakeConvert.{taken-always}
use Rattle.cap_account_steps.proofs.Frames.{Roomy, Waits, Hands, Stands}
use Rattle.cap_account_steps.proofs.Points.{point-act}
use Rattle.cap_account_steps.proofs.Regained.{Stable}
use Rattle.cap_account_steps.proofs.RestLaws.{rests}
use Rattle.cap_account_steps.proofs.Statements.{Statements}
use Rattle.cap_account.proofs.Stocked.{part_stock, account_table, Turn, spot_of}
use Rattle.cap_owners_spec.specs.Traced.{Traced, past_width, ◌>>=◌}
use Rattle.cap_owners_spec.specs.Track.{TrackedRegion, account_of}
use Rattle.cap_owners_spec.specs.Walks.{Halt}
use Rattle.cap_owners_spec.specs.Steps.{Proved, Scene, callee_of, interpreted, frame_walk, hands_over}
use Rattle.cap_owners_laws.specs.Owned.{IsTold, BindsFixed}
use Rattle.cap_owners_runs_laws.proofs.Tracks.Again.{tied-held, waits-held}
use Rattle.cap_owners_runs_laws.proofs.Tracks.Saying.{track-tells}
use Rattle.cap_owners_runs_laws.proofs.Tracks.Steps.{TurnKept, GoesKept, EachTurn, DoesKept}
use Rattle.cap_owners_runs_laws.proofs.Tracks.Tied.{nodes_of, Tied}
use Rattle.cap_owners_runs_laws.proofs.Tracks.Turns.{own as own_turn, stack-tied}
use Rattle.cap_owners_runs_laws.proofs.Tracks.Waiting.{AgainLaw}
use Rattle.cap_owners_runs_laws.proofs.Handing.CallSites.{CallingHere, calling_walk, call_due, fork_due, frame-calls, frame-forks}
use Rattle.cap_owners_runs_laws.proofs.Handing.CallTakes.{Taken_here, callee-takes, low, meets, over, taken-walks}
use Rattle.cap_owners_runs_laws.proofs.Handing.CallNames.{fixed-is}
use Rattle.cap_owners_runs_laws.proofs.Handing.CallSeats.{call_stop, caller_seated, caller-waits, caller-stands, fork_stop, forker_seated, forker-tied, forker-stands}
use Rattle.cap_owners_runs_laws.proofs.Handing.Called.{called_after, called_scene, called-wide, called-kept}
use Rattle.cap_owners_runs_laws.proofs.Handing.Forked.{forked_after, forked_scene, forked-wide, forked-kept}
use Rattle.cap_owners_runs_laws.proofs.Steps.Created.{created-so}
use Rattle.cap_owners_runs_laws.proofs.Steps.Renewed.{promise-again}
use Rattle.cap_owners_runs_laws.proofs.Steps.Standing.{with_part}
use Rattle.cap_owners_runs_laws.proofs.Handing.Handing.{hands-or, both_stand, room-now, within-now, zs, left, gave, count, names-fit, begun, from_halt}

module _ (program : PlainProgram) (trees : List (Option PlainTree)) (well : IsWellFormed program)
    (valid : Valid program trees) (stable : Stable program)
    (x : TurnKept (nodes_of program trees) trees) where
  abbrev p : Checked
  p = nodes_of program trees

  abbrev d : Proved
  d = record { program = program; trees = trees }

  abbrev turn : Turn (nodes_of program trees)
  turn = own_turn (nodes_of program trees) trees x

  abbrev f : Frame
  f = x.turn.frame

  abbrev fixed : List NameValue
  fixed = x.top.held.fixed

  abbrev part : Stock
  part = part_stock x.top.held.part

  abbrev T : Table
  T = account_table (account_of x.track)

  abbrev rs : List TrackedRegion
  rs = x.track.regions

  abbrev room : Roomy program T part
  room = room-now program trees well valid stable x

  abbrev heap-within : (a z : ℤ) → part.cells a z ≤ cells_of x.turn.c.heap a z
  heap-within = within-now program trees well valid stable x

  -- ---- a call

  module _ (ls : Statements p) (l : Label) (n : ℕ) (args : List Linear)
      (y : Option ℕ) (b : Block)
      (tied : Tied p trees part T fixed (with_rest f (first l (call y n args) b)) x.top)
      (binds : AllByRecursion BindsFixed program.functions) where
    abbrev r0 : Block
    r0 = first l (call y n args) b

    abbrev fn : PlainFunction
    fn = tied.stood.fn

    abbrev o : Traced Halt
    o = frame_walk d true rs x.top (x.top.since ++ Call ∷ [])

    abbrev due : PlainFunction → ℕ → Home → List PlainTask
    due = call_due l b

    give : GivenLaw p
    give = given-law p

    law : TakenLaw p
    law = taken-always p well.regions

    rest_law : RestsLaw p
    rest_law = rests p well

    again : AgainLaw p trees
    again = promise-again program trees well valid stable

    abbrev Here : Type 0
    Here = CallingHere p trees part T fn fixed f r0 l.number n args y due rs o

    module _ (h : Here) where
      abbrev scene_h : Scene
      scene_h = called_scene p trees x n h.g (map (value_in f.store) args) y b

      abbrev after_h : Configuration
      after_h = called_after p trees x n h.g (map (value_in f.store) args) y b

      abbrev m_h : Option Frame
      m_h = top_frame (slice_get after_h.threads x.turn.thread)

      new-top : m_h ≡ Some (new_frame n h.g (map (value_in f.store) args) y)
      new-top =
          ap top_frame (get-set-same x.turn.c.threads x.turn.thread
          (new_frame n h.g (map (value_in f.store) args) y ∷ with_rest f b ∷ x.turn.below)
          (index-within x.turn.c.threads x.turn.thread (x.turn.frame ∷ x.turn.below)
          x.turn.has_frames))

      abbrev Takes : Type 0
      Takes = Taken_here p trees well part T room fn fixed f r0 l.number n args y due rs
          (track-tells x.track) x.kept.numbered x.turn.c.heap heap-within o h

      -- what is taken is handed over
      call-hands :
          Takes → GoesKept p trees x
          (calls (spot_of x.turn) b n (map (value_in f.store) args) y (Some h.g))
      call-hands t =
          let there = track-tells x.track in
          let ok = tied.stood.ok in
          let args_now = map (value_in f.store) args in
          let names = fixed-is p trees well part T room fn fixed f r0 l.number n args y due rs
          there x.kept.numbered x.turn.c.heap heap-within o h t binds in
          let new = begun program trees well valid stable x r0 l.number n args y due fn o h t names
          y in
          let stop = call_stop p trees well give law rest_law stable part T room fn fixed
          tied.fits f l n args b rs there x.kept.numbered x.turn.c.heap heap-within o again y ok h t
          x.top in
          let seat = caller_seated p trees well give law rest_law stable part T room fn fixed
          tied.fits f l n args b rs there x.kept.numbered x.turn.c.heap heap-within o again y ok h t
          x.top in
          let waits = caller-waits p trees well give law rest_law stable part T room fn fixed
          tied.fits f l n args b rs there x.kept.numbered x.turn.c.heap heap-within o again y ok h t
          x.top in
          let lefts = left program trees well valid stable x r0 l.number n args y due fn o h t
          names in
          let gives = gave program trees well valid stable x r0 l.number n args y due fn o h t
          names in
          let goes_over = over p trees well part T room fn fixed f r0 l.number n args y due rs
          there x.kept.numbered x.turn.c.heap heap-within o h t in
          let hands : Hands p part T h.g args_now
          (λ kept U zs. Waits p kept U fixed (with_rest f b) y n args_now zs) = record {
            kept = lefts;
            given = gives;
            over = goes_over;
            fixed = zs program trees well valid stable x r0 l.number n args y due fn o h t names;
            fit = names-fit program trees well valid stable x r0 l.number n args y due fn o h t
                names;
            meets = meets p trees well part T room fn fixed f r0 l.number n args y due rs there
                x.kept.numbered x.turn.c.heap heap-within o h t;
            goes_on = waits.waited;
          } in
          let so = created-so p trees T t.took.U part (both program lefts gives) room t.took.new
          goes_over.made goes_over.budget t.took.created t.took.are_created rs t.made t.are_made
          t.took.later t.took.made.numbered in
          let hands_is : hands_over d scene_h Call m_h
          ≡ both_stand d m_h t.taken.fill (rs ++ t.made) seat =
          ap (λ q. q >>= from_halt program trees well valid stable x m_h)
          (taken-walks p trees well part T room fn fixed f r0 l.number n args y due rs there
          x.kept.numbered x.turn.c.heap heap-within o h t ∙ stop.walks) in
          elim (hands-or d m_h t.taken.fill (rs ++ t.made) seat new.frame lefts gives
          (ap (λ m. callee_of d m t.taken.fill) new-top ∙ new.begins)
          (caller-stands p trees well give law rest_law stable part T room fn fixed tied.fits f l
          n args b rs there x.kept.numbered x.turn.c.heap heap-within o again y ok h t x.top)
          new.stands) [
            | inl wide ↦ called-wide p trees x n h.g args_now y b (hands_is ∙ wide)
            | inr k ↦
                called-kept p trees ls stable x n h.g h.is_g args_now
                (count program trees well valid stable x r0 l.number n args y due fn o h t names) y
                b hands t.made so
                (with_part seat k.caller_part) (with_part new.frame k.callee_part) k.caller_has refl
                k.callee_has new.fixed_is
                (waits-held p trees lefts t.took.U fixed (with_rest f b) (record {
                  destination = y;
                  function = n;
                  arguments = args_now;
                  fixed = zs program trees well valid stable x r0 l.number n args y due fn o h t
                      names;
                })
                seat (record seat.held { part = k.caller_part }) waits)
                (tied-held p trees gives t.took.U
                (zs program trees well valid stable x r0 l.number n args y due fn o h t names)
                (new_frame n h.g args_now y) new.frame
                (record new.frame.held { part = k.callee_part }) new.tied)
                (subst (IsTold (λ z. z ≡ record {
                  caller = with_part seat k.caller_part;
                  callee = with_part new.frame k.callee_part;
                  regions = rs ++ t.made;
                })) (sym (hands_is ∙ k.is)) refl)
          ]

      call-here :
          GoesKept p trees x
          (calls (spot_of x.turn) b n (map (value_in f.store) args) y (Some h.g))
      call-here =
          elim (callee-takes p trees well part T room fn fixed f r0 l.number n args y due rs
          (track-tells x.track) x.kept.numbered x.turn.c.heap heap-within o h) [
            | inl wide ↦
                called-wide p trees x n h.g (map (value_in f.store) args) y b
                (ap (λ q. q >>= from_halt program trees well valid stable x m_h)
                (h.walks
                ∙ wide true (interpreted d)
                (calling_walk p trees part T fn fixed f r0 l.number n args y due rs h.vs h.z) []
                (low p trees well part T room fn fixed f r0 l.number n args y due rs
                (track-tells x.track) x.kept.numbered x.turn.c.heap heap-within o h)))
            | inr t ↦ call-hands t
          ]

    call-kept :
        GoesKept p trees x
        (calls (spot_of x.turn) b n (map (value_in f.store) args) y
        (slice_get program.functions n))
    call-kept =
        let act = point-act program fn l (call y n args) b tied.stood.ok.point in
        elim (frame-calls p trees well give law rest_law stable part T room fixed f l n args b
        rs Call x.top (track-tells x.track) y tied) [
          | inl wide ↦ by wide (slice_get program.functions n) act.1.arity
          | inr h ↦
              subst (λ m. GoesKept p trees x
              (calls (spot_of x.turn) b n (map (value_in f.store) args) y m)) (sym h.is_g)
              (call-here h)
        ]
      where
        by :
            frame_walk d true rs x.top (x.top.since ++ Call ∷ []) ≡ past_width →
            (m : Option PlainFunction) → IsSomeAnd m (λ g. length args ≡ g.params) →
            GoesKept p trees x
            (calls (spot_of x.turn) b n (map (value_in f.store) args) y m)
        by wide None k = absurd k
        by wide (Some g) k =
            called-wide p trees x n g (map (value_in f.store) args) y b
            (ap (λ q. q >>= from_halt program trees well valid stable x (top_frame
            (slice_get (called_after p trees x n g (map (value_in f.store) args) y b).threads
            x.turn.thread))) wide)

  -- ---- a fork

  module _ (ls : Statements p) (l : Label) (n : ℕ) (args : List Linear) (b : Block)
      (tied : Tied p trees part T fixed (with_rest f (first l (fork n args) b)) x.top)
      (binds : AllByRecursion BindsFixed program.functions) where
    abbrev r1 : Block
    r1 = first l (fork n args) b

    abbrev fn1 : PlainFunction
    fn1 = tied.stood.fn

    abbrev event : Event
    event = Fork (length x.turn.c.threads)

    abbrev o1 : Traced Halt
    o1 = frame_walk d true rs x.top
        (x.top.since ++ Fork (length x.turn.c.threads) ∷ [])

    abbrev due1 : PlainFunction → ℕ → Home → List PlainTask
    due1 = fork_due b

    give1 : GivenLaw p
    give1 = given-law p

    law1 : TakenLaw p
    law1 = taken-always p well.regions

    rest1 : RestsLaw p
    rest1 = rests p well

    module _ (h : CallingHere p trees part T fn1 fixed f r1 l.number n args None due1 rs o1) where
      abbrev scene_f : Scene
      scene_f = forked_scene p trees x n h.g (map (value_in f.store) args) b

      abbrev after_f : Configuration
      after_f = forked_after p trees x n h.g (map (value_in f.store) args) b

      abbrev m_f : Option Frame
      m_f = top_frame (slice_get after_f.threads (length x.turn.c.threads))

      new-thread : m_f ≡ Some (new_frame n h.g (map (value_in f.store) args) None)
      new-thread =
          let fs = with_rest f b ∷ x.turn.below in
          let ts = slice_set x.turn.c.threads x.turn.thread fs in
          let new = new_frame n h.g (map (value_in f.store) args) None in
          subst (λ k. top_frame (slice_get (ts ++ (new ∷ []) ∷ []) k) ≡ Some new)
          (set-length x.turn.c.threads x.turn.thread fs) (ap top_frame (get-last ts (new ∷ [])))

      -- what is taken is handed over
      fork-hands :
          Taken_here p trees well part T room fn1 fixed f r1 l.number n args None due1 rs
          (track-tells x.track) x.kept.numbered x.turn.c.heap heap-within o1 h →
          GoesKept p trees x (forks (spot_of x.turn) b n (map (value_in f.store) args) (Some h.g))
      fork-hands t =
          let there = track-tells x.track in
          let ok = tied.stood.ok in
          let args_now = map (value_in f.store) args in
          let names = fixed-is p trees well part T room fn1 fixed f r1 l.number n args None due1
          rs there x.kept.numbered x.turn.c.heap heap-within o1 h t binds in
          let new = begun program trees well valid stable x r1 l.number n args None due1 fn1 o1 h t
          names None in
          let stop = fork_stop p trees well give1 law1 rest1 stable part T room fn1 fixed
          tied.fits f l n args b rs there x.kept.numbered x.turn.c.heap heap-within o1 ok h t
          x.top in
          let seat = forker_seated p trees well give1 law1 rest1 stable part T room fn1 fixed
          tied.fits f l n args b rs there x.kept.numbered x.turn.c.heap heap-within o1 ok h t
          x.top in
          let goes = forker-tied p trees well give1 law1 rest1 stable part T room fn1 fixed
          tied.fits f l n args b rs there x.kept.numbered x.turn.c.heap heap-within o1 ok h t
          x.top in
          let lefts = left program trees well valid stable x r1 l.number n args None due1 fn1 o1 h
          t names in
          let gives = gave program trees well valid stable x r1 l.number n args None due1 fn1 o1 h
          t names in
          let goes_over = over p trees well part T room fn1 fixed f r1 l.number n args None due1
          rs there x.kept.numbered x.turn.c.heap heap-within o1 h t in
          let hands : Hands p part T h.g args_now
          (λ kept U zs. Stands p kept U fixed (with_rest f b)) = record {
            kept = lefts;
            given = gives;
            over = goes_over;
            fixed = zs program trees well valid stable x r1 l.number n args None due1 fn1 o1 h t
                names;
            fit = names-fit program trees well valid stable x r1 l.number n args None due1 fn1 o1 h
                t names;
            meets = meets p trees well part T room fn1 fixed f r1 l.number n args None due1 rs
                there x.kept.numbered x.turn.c.heap heap-within o1 h t;
            goes_on = goes.stood;
          } in
          let so = created-so p trees T t.took.U part (both program lefts gives) room t.took.new
          goes_over.made goes_over.budget t.took.created t.took.are_created rs t.made t.are_made
          t.took.later t.took.made.numbered in
          let hands_is : hands_over d scene_f event m_f
          ≡ both_stand d m_f t.taken.fill (rs ++ t.made) seat =
          ap (λ q. q >>= from_halt program trees well valid stable x m_f)
          (taken-walks p trees well part T room fn1 fixed f r1 l.number n args None due1 rs there
          x.kept.numbered x.turn.c.heap heap-within o1 h t ∙ stop.walks) in
          elim (hands-or d m_f t.taken.fill (rs ++ t.made) seat new.frame lefts gives
          (ap (λ m. callee_of d m t.taken.fill) new-thread ∙ new.begins)
          (forker-stands p trees well give1 law1 rest1 stable part T room fn1 fixed tied.fits f l
          n args b rs there x.kept.numbered x.turn.c.heap heap-within o1 ok h t x.top)
          new.stands) [
            | inl wide ↦ forked-wide p trees x n h.g args_now b (hands_is ∙ wide)
            | inr k ↦
                forked-kept p trees ls stable x n h.g h.is_g args_now
                (count program trees well valid stable x r1 l.number n args None due1 fn1 o1 h t
                names) b hands t.made so
                (with_part seat k.caller_part) (with_part new.frame k.callee_part) k.caller_has refl
                k.callee_has new.fixed_is
                (tied-held p trees lefts t.took.U fixed (with_rest f b) seat
                (record seat.held { part = k.caller_part }) goes)
                (tied-held p trees gives t.took.U
                (zs program trees well valid stable x r1 l.number n args None due1 fn1 o1 h t names)
                (new_frame n h.g args_now None) new.frame
                (record new.frame.held { part = k.callee_part }) new.tied)
                (subst (IsTold (λ z. z ≡ record {
                  caller = with_part seat k.caller_part;
                  callee = with_part new.frame k.callee_part;
                  regions = rs ++ t.made;
                })) (sym (hands_is ∙ k.is)) refl)
          ]

      fork-here :
          GoesKept p trees x (forks (spot_of x.turn) b n (map (value_in f.store) args) (Some h.g))
      fork-here =
          elim (callee-takes p trees well part T room fn1 fixed f r1 l.number n args None due1 rs
          (track-tells x.track) x.kept.numbered x.turn.c.heap heap-within o1 h) [
            | inl wide ↦
                forked-wide p trees x n h.g (map (value_in f.store) args) b
                (ap (λ q. q >>= from_halt program trees well valid stable x m_f)
                (h.walks
                ∙ wide true (interpreted d)
                (calling_walk p trees part T fn1 fixed f r1 l.number n args None due1 rs h.vs h.z)
                []
                (low p trees well part T room fn1 fixed f r1 l.number n args None due1 rs
                (track-tells x.track) x.kept.numbered x.turn.c.heap heap-within o1 h)))
            | inr t ↦ fork-hands t
          ]

    fork-kept :
        GoesKept p trees x
        (forks (spot_of x.turn) b n (map (value_in f.store) args) (slice_get program.functions n))
    fork-kept =
        let act = point-act program fn1 l (fork n args) b tied.stood.ok.point in
        elim (frame-forks p trees well give1 law1 rest1 stable part T room fixed f l n args b rs
        event x.top (track-tells x.track) tied) [
          | inl wide ↦ by wide (slice_get program.functions n) act.arity
          | inr h ↦
              subst (λ m. GoesKept p trees x
              (forks (spot_of x.turn) b n (map (value_in f.store) args) m)) (sym h.is_g)
              (fork-here h)
        ]
      where
        by :
            frame_walk d true rs x.top (x.top.since ++ Fork (length x.turn.c.threads) ∷ [])
            ≡ past_width →
            (m : Option PlainFunction) → IsSomeAnd m (λ g. length args ≡ g.params) →
            GoesKept p trees x
            (forks (spot_of x.turn) b n (map (value_in f.store) args) m)
        by wide None k = absurd k
        by wide (Some g) k =
            forked-wide p trees x n g (map (value_in f.store) args) b
            (ap (λ q. q >>= from_halt program trees well valid stable x (top_frame
            (slice_get (forked_after p trees x n g (map (value_in f.store) args) b).threads
            (length x.turn.c.threads)))) wide)

-- ---- the statements

module _ (program : PlainProgram) (trees : List (Option PlainTree)) (well : IsWellFormed program)
    (valid : Valid program trees) (stable : Stable program)
    (ls : Statements (nodes_of program trees))
    (binds : AllByRecursion BindsFixed program.functions) where
  abbrev nodes : Checked
  nodes = nodes_of program trees

  -- the frame is tied before its next statement
  tied-before :
      (x : TurnKept (nodes_of program trees) trees) (b : Block) → x.turn.frame.rest ≡ b →
      Tied (nodes_of program trees) trees (part_stock x.top.held.part)
      (account_table (account_of x.track)) x.top.held.fixed (with_rest x.turn.frame b) x.top
  tied-before x b e =
      subst (λ f. Tied nodes trees (part_stock x.top.held.part)
      (account_table (account_of x.track)) x.top.held.fixed f x.top)
      (λ i. record x.turn.frame { rest = e i }) (stack-tied nodes trees x).0

  pub calls-kept :
      EachTurn (nodes_of program trees) trees (λ x l b. (y : Option ℕ) (n : ℕ)
      (args : List Linear) → DoesKept (nodes_of program trees) trees x l (call y n args) b None)
  calls-kept x l b y n args e =
      call-kept program trees well valid stable x ls l n args y b
      (tied-before x (first l (call y n args) b) e) binds

  pub forks-kept :
      EachTurn (nodes_of program trees) trees (λ x l b. (n : ℕ) (args : List Linear) →
      DoesKept (nodes_of program trees) trees x l (fork n args) b None)
  forks-kept x l b n args e =
      fork-kept program trees well valid stable x ls l n args b
      (tied-before x (first l (fork n args) b) e) binds
