-- Loops: a frame at a loop gives up what its invariant draws, and goes into a turn of it or behind it
-- with just that.
use Rattle.std.proofs.Common.{◌≡◌, ◌⊎◌, inl, inr, ◌+◌, ◌≤◌, ℤ, pos, ◌+ℤ◌, Bool, true, false, List, [], ◌∷◌, ◌++◌, drop, length, Option, None, refl, sym, ap, ◌∙◌, subst, arith}
use Rattle.std.specs.Prelude.{if◌then◌else◌}
use Rattle.std.proofs.lemmas.Int.{ints}
use Rattle.cap_lin.specs.declared.row.Sort.TheVariants.{Int}
use Rattle.cap_prog.specs.declared.assertion.Comp.{Comp}
use Rattle.cap_prog.specs.Program.{PlainAssertion, Label, loop, Block, first, append, PlainFunction, PlainProgram}
use Rattle.cap_prog.specs.Scopes.{Scope, invariant_scope}
use Rattle.cap_prog.specs.WellFormed.{IsWellFormed}
use Rattle.cap_goal_spec.specs.States.{PlainEnv}
use Rattle.cap_goal_spec.specs.Choices.{by_loop, PlainTree, node}
use Rattle.cap_goal_spec.specs.Environments.{bound}
use Rattle.cap_rules.specs.Making.{env_at}
use Rattle.cap_rules.specs.Valid.{Valid}
use Rattle.cap_machine.specs.Machine.{Frame, Configuration, holds, with_rest, passes, does}
use Rattle.cap_machine.specs.declared.event.Event.{Event}
use Rattle.cap_machine.specs.declared.event.Event.TheVariants.{Branch}
use Rattle.cap_machine_accounts.specs.Assertions.{NameValue}
use Rattle.cap_account_resources.specs.Parts.{cells_of, Table}
use Rattle.cap_account_resources.proofs.Interference.{Relies}
use Rattle.cap_account_resources.proofs.Lists.{none-some, all-at}
use Rattle.cap_account_resources.proofs.Stocks.{Stock, no_stock, inside-cells}
use Rattle.cap_account_states.proofs.Checked.{Checked}
use Rattle.cap_account_states.proofs.Items.{AreFit}
use Rattle.cap_account_states.proofs.Meets.{Usable}
use Rattle.cap_account_states.proofs.Naming.{Placed, values_in, values-mean}
use Rattle.cap_account_states.proofs.Roots.{flat-bound}
use Rattle.cap_account_states.proofs.Terms.{Over}
use Rattle.cap_account_assertions.proofs.Asserted.{OwnsInvariant, owns-all}
use Rattle.cap_account_assertions.proofs.Laws.{TakenLaw}
use Rattle.cap_account_assertions.proofs.TakeConvert.{taken-always}
use Rattle.cap_account_steps.proofs.Frames.{Roomy}
use Rattle.cap_account_steps.proofs.OwnNames.{get-drop}
use Rattle.cap_account_steps.proofs.Points.{FrameOk, point-act}
use Rattle.cap_account_steps.proofs.Regained.{Stable}
use Rattle.cap_account_steps.proofs.Returning.{head_env, head-placed, head-owns}
use Rattle.cap_account_steps.proofs.Stores.{running}
use Rattle.cap_account.proofs.Changes.{roomy, cells-after}
use Rattle.cap_account.proofs.Handing.{cut-roomy}
use Rattle.cap_account.proofs.Returning.{giving}
use Rattle.cap_account.proofs.Stocked.{part_stock, account_table, Turn, spot_of}
use Rattle.cap_account.proofs.Strides.{left-all}
use Rattle.cap_account.proofs.Successors.{scene as account_scene, Stride, all}
use Rattle.cap_owners_spec.specs.Traced.{Traced, traced, past_width}
use Rattle.cap_owners_spec.specs.Track.{TrackedRegion, TrackedFrame, account_of}
use Rattle.cap_owners_spec.specs.Walks.{Halt}
use Rattle.cap_owners_spec.specs.Steps.{Proved, interpreted, frame_walk, standing, looping, follow}
use Rattle.cap_owners_laws.specs.Owned.{IsTold, GoesOver}
use Rattle.cap_owners_walks_laws.proofs.Fills.Drawn.{Tells}
use Rattle.cap_owners_walks_laws.proofs.Passes.Takes.{AreNameTerms, AreBelow}
use Rattle.cap_owners_runs_laws.proofs.Tracks.Saying.{track-tells}
use Rattle.cap_owners_runs_laws.proofs.Tracks.Steps.{TurnKept, GoesKept, EachTurn, DoesKept}
use Rattle.cap_owners_runs_laws.proofs.Tracks.Tied.{nodes_of, derivation, Tied, Kept}
use Rattle.cap_owners_runs_laws.proofs.Tracks.Turns.{own, stack-tied}
use Rattle.cap_owners_runs_laws.proofs.Steps.Created.{numbered-below}
use Rattle.cap_owners_runs_laws.proofs.Steps.OwnTerms.{own-terms}
use Rattle.cap_owners_runs_laws.proofs.Steps.Owed.{Owes, OwedTaken, owed-takes, owed-wide, as_taken, all_drawn, given_up, just_drawn, owed-met, owed-drawn, owed-fits, hands_over, owed-made, left_walk, owed-leaves}
use Rattle.cap_owners_runs_laws.proofs.Steps.Owing.{IsDue, frame-due}
use Rattle.cap_owners_runs_laws.proofs.Handing.LoopHeads.{head_debt, head-due}
use Rattle.cap_owners_runs_laws.proofs.Steps.Looped.{looped-tied, loop-begins, looped-has}
use Rattle.cap_owners_runs_laws.proofs.Steps.Making.{MadeSo, made-table}
use Rattle.cap_owners_runs_laws.proofs.Steps.Renewed.{loop-again}
use Rattle.cap_owners_runs_laws.proofs.Handing.Rounds.{round_after, RoundKept, round-told, round-wide}
use Rattle.cap_owners_runs_laws.proofs.Steps.Standing.{StandsWith, stands-just}

module _ (program : PlainProgram) (trees : List (Option PlainTree)) (well : IsWellFormed program)
    (valid : Valid program trees) (stable : Stable program) where
  abbrev p : Checked
  p = nodes_of program trees

  abbrev d : Proved
  d = record { program = program; trees = trees }

  law : TakenLaw p
  law = taken-always p well.regions

  module _ (x : TurnKept (nodes_of program trees) trees) (l : Label) (c : Comp)
      (inv : PlainAssertion) (body b : Block)
      (rest_is : x.turn.frame.rest ≡ first l (loop c inv body) b) where
    abbrev turn : Turn (nodes_of program trees)
    turn = own p trees x

    abbrev f : Frame
    f = x.turn.frame

    abbrev fixed : List NameValue
    fixed = x.top.held.fixed

    abbrev part : Stock
    part = part_stock x.top.held.part

    abbrev T : Table
    T = account_table (account_of x.track)

    abbrev rs : List TrackedRegion
    rs = x.track.regions

    abbrev r0 : Block
    r0 = first l (loop c inv body) b

    abbrev event : Event
    event = Branch (holds f.store c)

    abbrev room : Roomy program T part
    room = roomy program (account_scene p turn)

    tied : Tied p trees part T fixed (with_rest f r0) x.top
    tied =
        subst (λ f. Tied p trees part T fixed f x.top) (λ i. record x.turn.frame { rest = rest_is i })
        (stack-tied p trees x).0

    abbrev fn : PlainFunction
    fn = tied.stood.fn

    abbrev ok : FrameOk program fn fixed (with_rest f r0)
    ok = tied.stood.ok

    abbrev walked : Traced Halt
    walked = frame_walk d false rs x.top (x.top.since ++ event ∷ [])

    abbrev sc : Scope
    sc = invariant_scope fn inv.names

    abbrev Due : Type 0
    Due = IsDue p trees part T fixed f (head_debt p trees well law part T room fixed f l c inv body b
        rs event fn ok) rs event fn walked

    due : (walked ≡ past_width) ⊎ Due
    due =
        frame-due p trees part T fixed f
        (head_debt p trees well law part T room fixed f l c inv body b rs event fn ok) rs event x.top
        tied (track-tells x.track)
        (head-due p trees well law part T room fixed f l c inv body b rs event fn ok)

    -- the frame behind the comparison
    abbrev behind : Block
    behind = if holds f.store c then append body r0 else b

    abbrev Kept_round : Type 0
    Kept_round =
        GoesKept p trees x (does program (spot_of x.turn) l (loop c inv body) b None)

    low : AreBelow (pos (1 + length rs)) rs
    low =
        let same : pos 1 +ℤ pos (length rs) ≡ pos (1 + length rs) = omega (arith, ints) in
        subst (λ m. AreBelow m rs) same (numbered-below (pos 1) rs x.kept.numbered)

    within : (a z : ℤ) → part.cells a z ≤ cells_of x.turn.c.heap a z
    within a z = let i = (account_scene p turn).cells a z in omega (arith, i)

    module _ (o : Due) where
      abbrev env : PlainEnv
      env = head_env p well law part T fn fixed room o.n.state o.n.home inv

      placed : Placed [] sc o.n.state.sorts env
      placed =
          head-placed p well law part T fn fixed room f r0 inv (node by_loop o.ks) ok o.n

      terms : AreNameTerms o.n.state.sorts env
      terms =
          let s = o.n.state in
          own-terms o.n.v s o.n.home fn fixed (with_rest f r0) o.n.store o.n.grounded.meets
          (bound (drop fn.params s.store)) None (length inv.names)
          (λ i t e. all-at (Over (Usable [] s.sorts Int)) s.store (fn.params + i) t
          o.n.grounded.meets.store_over
          (sym (get-drop s.store fn.params i) ∙ sym (flat-bound (drop fn.params s.store) i) ∙ e))
          (λ t e. absurd (none-some e))

      fits : AreFit program sc inv.items
      fits = (point-act program fn l (loop c inv body) b ok.point).1.items.items

      -- the invariant is owed
      abbrev owes : Owes p part T rs
      owes = record {
        tells = track-tells x.track;
        low = low;
        heap = x.turn.c.heap;
        within = within;
        fn = fn;
        fixed = fixed;
        frame = with_rest f r0;
        tasks = running r0;
        tree = node by_loop o.ks;
        n = o.n;
        values = o.w.values;
        valued = o.valued;
        sorted = o.sorted;
        scope = sc;
        env = env;
        items = inv.items;
        number = l.number;
        kids = o.ks;
        placed = placed;
        terms = terms;
        fits = fits;
        goes = o.goes;
      }

      module _ (t : OwedTaken p well part T room rs owes) where
        abbrev U : Table
        U = t.took.U

        abbrev given : Stock
        given = given_up p well part T room rs owes t

        -- what is drawn is the invariant
        abbrev owns : OwnsInvariant program t.took.U (given_up p well part T room rs owes t) fn
            f.store fixed inv
        owns =
            let w = t.took.w in
            let later = env_at t.took.after (length o.n.state.envs) in
            let tk = as_taken p well part T room rs owes t in
            let own = head-owns p well law part T fn fixed room f r0 inv (node by_loop o.ks) ok o.n tk
            w (values_in w later) tk.alike (values-mean sc w later)
            (owns-all program t.took.U (values_in w later) inv.items t.took.given
            (all_drawn p well part T room rs owes t)) in
            record {
              values = own.values;
              store_is = own.store_is;
              fixed_are = own.fixed_are;
              met = (no_stock, just_drawn p well part T room rs owes t);
            }

        abbrev gives_up : Stride p turn
        gives_up = giving p turn given (hands_over p well part T room rs owes t)

        room-then : Roomy program U given
        room-then = cut-roomy p stable turn gives_up given (left-all p stable turn gives_up)

        within-then : (a z : ℤ) → given.cells a z ≤ cells_of x.turn.c.heap a z
        within-then a z =
            let i = inside-cells program given (all p stable turn gives_up)
            (left-all p stable turn gives_up) a z in
            let k = cells-after program (account_scene p turn) x.turn.c.heap given
            (Stride.change gives_up) a z in
            omega (arith, i, k)

        made_so : MadeSo p trees U t.took.new rs t.made
        made_so = owed-made p well part T room rs owes t trees

        tells-then : Tells (rs ++ t.made) U
        tells-then =
            subst (Tells (rs ++ t.made))
            (made-table p trees stable x gives_up refl t.made made_so [])
            (track-tells (record { regions = rs ++ t.made; threads = [] }))

        -- it begins a turn with that
        record TurnBegun : Type 0 where
          begun : TrackedFrame
          begins : looping d x.turn.frame x.top event t.taken.fill ≡ traced begun
          fixed_is : begun.held.fixed ≡ fixed
          tied_then : Tied p trees given U fixed (with_rest f behind) begun
          stands : IsTold (StandsWith begun given) (standing d (rs ++ t.made) begun)

        turn-begun : TurnBegun
        turn-begun =
            let fill = t.taken.fill in
            let met = owed-met p well part T room rs owes t in
            let have = owed-fits p well part T room rs owes t in
            let again : (W : Table) → Relies program given.guards U W → _ =
            loop-again program trees well valid stable fn fixed f l c inv body b ok tied.fits given U
            room-then fill x.turn.c.heap within-then owns met have in
            let b0 = loop-begins program trees well valid fn fixed f l c inv body b ok tied.fits
            given U room-then fill x.top refl in
            record {
              begun = b0.0;
              begins =
                  (λ i. looping d (record x.turn.frame { rest = rest_is i }) x.top event fill) ∙ b0.1;
              fixed_is = b0.2;
              tied_then =
                  looped-tied program trees well valid fn fixed f l c inv body b ok tied.fits given U
                  room-then fill again x.top b0.0 refl b0.1;
              stands =
                  stands-just p trees given x.turn.c.heap within-then b0.0 (rs ++ t.made)
                  (looped-has program trees well valid fn fixed f l c inv body b ok tied.fits given U
                  room-then fill owns met have (owed-drawn p well part T room rs owes t) x.top b0.0
                  refl b0.1 (rs ++ t.made) tells-then);
            }

        taken-round :
            (g : TurnBegun) →
            IsTold
            (RoundKept p trees stable x given (hands_over p well part T room rs owes t) t.made made_so
            behind (holds f.store c) g.begun g.fixed_is g.tied_then)
            (follow d x.track x.turn.thread event x.turn.c (round_after p trees x behind
            (holds f.store c)))
        taken-round g =
            let enter = interpreted (derivation p trees) in
            round-told p trees stable x given (hands_over p well part T room rs owes t) t.made made_so
            behind (holds f.store c) g.begun g.fixed_is g.tied_then
            (left_walk p well part T room rs owes t o.w) t.taken
            (o.walks
            ∙ owed-leaves p well part T room rs owes t enter o.w refl o.regions o.next o.taken) refl
            (ap (λ qs. qs ++ t.made) o.regions) g.begins g.stands

    -- what follows, by how the comparison comes out
    abbrev After : Bool → Configuration
    After t = round_after p trees x (if t then append body r0 else b) t

    abbrev Told : Bool → Type 0
    Told t =
        IsTold (λ k.
        GoesOver d x.turn.thread (Branch t) x.turn.c (After t) x.track k × Kept p trees (After t) k)
        (follow d x.track x.turn.thread (Branch t) x.turn.c (After t))

    wide-told : walked ≡ past_width → Told (holds f.store c)
    wide-told wide =
        round-wide p trees x behind (holds f.store c) (λ k.
        GoesOver d x.turn.thread event x.turn.c (After (holds f.store c)) x.track k
        × Kept p trees (After (holds f.store c)) k) wide

    due-told : Due → Told (holds f.store c)
    due-told o =
        let enter = interpreted (derivation p trees) in
        elim (owed-takes p well part T room rs (owes o)) [
          | inl wide ↦
              wide-told (o.walks
              ∙ owed-wide p well part T room rs (owes o) wide enter o.w refl o.regions o.next o.taken)
          | inr t ↦ taken-round o t (turn-begun o t)
        ]

    loop-kept : Kept_round
    loop-kept = by (holds f.store c) (elim due [ inl wide ↦ wide-told wide | inr o ↦ due-told o ])
      where
        by :
            (t : Bool) → Told t →
            GoesKept p trees x
            (if t then passes (spot_of x.turn) x.turn.c.heap (append body r0) (Branch true)
            else passes (spot_of x.turn) x.turn.c.heap b (Branch false))
        by true h = h
        by false h = h

  -- loops
  pub loops-are-kept :
      EachTurn p trees (λ x l b. (c : Comp) (i : PlainAssertion) (a : Block) →
      DoesKept p trees x l (loop c i a) b None)
  loops-are-kept x l b c i a e = loop-kept x l c i a b e
