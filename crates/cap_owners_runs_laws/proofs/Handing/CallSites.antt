-- A frame that calls or forks: its walk to a seat comes to a Take of what the callee requires, at
-- the values of the walk, and one more for the callee's result.
use Rattle.std.proofs.Common.{◌≡◌, ◌⊎◌, inl, inr, ℕ, ◌+◌, ℤ, pos, Bool, true, false, List, [], ◌∷◌, ◌++◌, length, Option, Some, None, refl, sym, ap, ◌∙◌, subst}
use Rattle.std.specs.Prelude.{slice_get, IsSomeAnd}
use Rattle.std.specs.List.{AllByRecursion, AllZip}
use Rattle.cap_lin.specs.Linear.{Linear}
use Rattle.cap_lin.specs.Values.{value}
use Rattle.cap_prog.specs.Program.{Label, call, fork, Block, first, PlainFunction}
use Rattle.cap_prog.specs.WellFormed.{IsWellFormed}
use Rattle.cap_goal_spec.specs.States.{PlainState, Home, PlainTask, to_run, to_give, to_take, to_rest, goal, goals_of}
use Rattle.cap_goal_spec.specs.Choices.{by_absurd, by_call, by_fork, PlainTree, node, PlainTrees}
use Rattle.cap_rules.specs.Making.{in_store}
use Rattle.cap_machine.specs.Machine.{Frame, with_rest}
use Rattle.cap_machine.specs.declared.event.Event.{Event}
use Rattle.cap_machine_accounts.specs.Assertions.{NameValue, a_number}
use Rattle.cap_account_resources.specs.Parts.{Table}
use Rattle.cap_account_resources.proofs.Interference.{relies-same}
use Rattle.cap_account_resources.proofs.Stocks.{Stock}
use Rattle.cap_account_states.specs.Nodes.{Open}
use Rattle.cap_account_states.proofs.Alike.{Alike}
use Rattle.cap_account_states.proofs.Backed.{IsFirm, Backed, Grounded}
use Rattle.cap_account_states.proofs.Checked.{Checked}
use Rattle.cap_account_states.proofs.Facts.{Facts}
use Rattle.cap_account_states.proofs.Meets.{Old}
use Rattle.cap_account_states.proofs.Roots.{values-length}
use Rattle.cap_account_assertions.proofs.Laws.{GivenLaw, TakenLaw, RestsLaw}
use Rattle.cap_account_steps.proofs.CallLaws.{call-leads, fork-leads}
use Rattle.cap_account_steps.proofs.Callees.{at_call}
use Rattle.cap_account_steps.proofs.Frames.{Node, Sits, Roomy}
use Rattle.cap_account_steps.proofs.Local.{given-up}
use Rattle.cap_account_steps.proofs.Points.{point-act}
use Rattle.cap_account_steps.proofs.Regained.{Stable}
use Rattle.cap_account_steps.proofs.Stores.{Store, running}
use Rattle.cap_owners_spec.specs.Traced.{Traced, traced, past_width, untold, ◌>>=◌, valuation, number_in}
use Rattle.cap_owners_spec.specs.Track.{TrackedRegion, TrackedFrame}
use Rattle.cap_owners_spec.specs.Walks.{Walk, nothing_taken, result_for, pass_callee, on, taking, bringing, Interpreting, Halt, stands, leaves, walk, walk_below}
use Rattle.cap_owners_spec.specs.Steps.{Proved, interpreted, frame_walk}
use Rattle.cap_owners_laws.specs.Owned.{IsTold}
use Rattle.cap_owners_walks_laws.proofs.Values.More.{FitsSort, number-told}
use Rattle.cap_owners_walks_laws.proofs.Values.Numbers.{number-is}
use Rattle.cap_owners_walks_laws.proofs.Fills.Drawn.{Tells}
use Rattle.cap_owners_walks_laws.proofs.Walks.Going.{goes_on, frame-goes-on}
use Rattle.cap_owners_walks_laws.proofs.Walks.Leading.{Left, node-leads}
use Rattle.cap_owners_walks_laws.proofs.Passes.Rests.{walks_into, below-wide}
use Rattle.cap_owners_runs_laws.proofs.Tracks.Tied.{StopsSo, derivation, IsAtNode, Tied}
use Rattle.cap_owners_runs_laws.proofs.Steps.Owing.{node_at}

-- ---- from the node at which a frame sits

module _ (p : Checked) (trees : List (Option PlainTree)) (part : Stock) (T : Table)
    (fixed : List NameValue) (f : Frame) (rs : List TrackedRegion) (event : Event)
    (top : TrackedFrame) (tied : Tied p trees part T fixed f top) (tells : Tells rs T) where
  abbrev mine : Proved
  mine = derivation p trees

  abbrev now : Sits p part T tied.stood.fn fixed f
  now = tied.stood.all T (relies-same p.program part.guards T)

  -- with a step more its walk is one from there, at values alike to those of the node, or too wide
  pub from-node :
      (seating : Bool) (Q : Traced Halt → Type 0) → Q past_width →
      ((w : Walk) → Alike (Old now.at_node.state) now.at_node.v (valuation w.values) →
      AllZip FitsSort now.at_node.state.sorts w.values → w.regions ≡ rs →
      w.next ≡ pos (1 + length rs) →
      Q (walk (interpreted (derivation p trees)) p.program seating now.tree
      (goal now.at_node.state (running f.rest now.at_node.home))
      (record w { events = event ∷ [] }))) →
      Q (frame_walk (derivation p trees) seating rs top (top.since ++ event ∷ []))
  from-node seating Q wide there =
      by (frame_walk mine false rs top top.since) refl
      (tied.walks T (relies-same p.program part.guards T) rs tells)
    where
      on_from : Halt → Traced Halt
      on_from = goes_on (interpreted (derivation p trees)) p.program seating (event ∷ [])

      by :
          (o : Traced Halt) → frame_walk (derivation p trees) false rs top top.since ≡ o →
          IsTold (StopsSo (IsAtNode p trees rs part T tied.stood.fn fixed f now)) o →
          Q (frame_walk (derivation p trees) seating rs top (top.since ++ event ∷ []))
      by past_width e h =
          subst Q (sym (frame-goes-on mine seating rs top top.since event []
          ∙ ap (λ o. o >>= goes_on (interpreted (derivation p trees)) p.program seating
          (event ∷ [])) e)) wide
      by untold e h = absurd h
      by (traced (leaves w)) e h = absurd h
      by (traced (stands q w)) e a =
          let same = frame-goes-on mine seating rs top top.since event []
          ∙ ap (λ o. o >>= goes_on (interpreted (derivation p trees)) p.program seating
          (event ∷ [])) e
          ∙ (λ i. walk (interpreted (derivation p trees)) p.program seating (a.tree i)
          (a.goal_is i) (record w { events = a.tidy.events i ++ event ∷ [] })) in
          subst Q (sym same) (there w a.alike a.tidy.sorted a.tidy.regions a.tidy.next)

-- ---- the result's variable

-- what the destination has, by these values
abbrev pub IsOldValue : PlainState → List NameValue → Option ℕ → ℤ → Type 0
IsOldValue s vs x z = (i : ℕ) → x ≡ Some i → z ≡ value (valuation vs).whole (in_store s i)

-- for now it has that, or it is too wide
result-or :
    (s : PlainState) (x : Option ℕ) (w : Walk) →
    (result_for s x w ≡ past_width)
    ⊎ ((z : ℤ) × (result_for s x w ≡ traced (a_number z)) × IsOldValue s w.values x z)
result-or s None w = inr (pos 0, refl, λ i e. absurd (none-is i e))
  where
    none-is : (i : ℕ) → None ≡ Some i → ⊥
    none-is i e = cc
result-or s (Some x) w = by (number_in w.values (in_store s x)) refl
  where
    same : (i : ℕ) → Some x ≡ Some i → x ≡ i
    same i q = cc

    by :
        (o : Traced ℤ) → number_in w.values (in_store s x) ≡ o →
        (result_for s (Some x) w ≡ past_width)
        ⊎ ((z : ℤ) × (result_for s (Some x) w ≡ traced (a_number z))
        × IsOldValue s w.values (Some x) z)
    by past_width e = inl (ap (λ o. o >>= λ z. traced (a_number z)) e)
    by untold e = absurd (number-told w.values (in_store s x) e)
    by (traced z) e = inr (
      z,
      ap (λ o. o >>= λ z. traced (a_number z)) e,
      λ i q.
          let is = number-is w.values (in_store s x) z e in
          is ∙ ap (λ j. value (valuation w.values).whole (in_store s j)) (same i q),
    )

-- ---- the Take

module _ (p : Checked) (trees : List (Option PlainTree)) (part : Stock) (T : Table)
    (fn : PlainFunction) (fixed : List NameValue) (f : Frame) (r0 : Block) (number n : ℕ)
    (args : List Linear) (x : Option ℕ) (due : PlainFunction → ℕ → Home → List PlainTask)
    (rs : List TrackedRegion) where
  abbrev enter : Interpreting
  enter = interpreted (derivation p trees)

  -- the walk to what is to be taken
  abbrev pub calling_walk : List NameValue → ℤ → Walk
  calling_walk vs z = record {
    values = vs ++ a_number z ∷ [];
    regions = rs;
    next = pos (1 + length rs);
    taken = nothing_taken ∷ [];
    fill = None;
    events = [];
    awaited = length vs;
  }

  -- at these values a state holds of the frame; a walk is to take what the callee requires, with
  -- the result's variable, and then facts are to rest before what is due
  pub record CallingHere (o : Traced Halt) : Type 0 where
    pub state : PlainState
    pub home : Home
    pub vs : List NameValue
    pub none_open : state.opened ≡ []
    pub grounded : Grounded p.program [] (valuation vs) state
    pub facts : Facts [] (valuation vs) T state
    pub firm : AllByRecursion IsFirm state.facts
    pub backed : Backed p.program (valuation vs) state part
    pub store : Store (valuation vs) state home fn fixed (with_rest f r0)
    pub sorted : AllZip FitsSort state.sorts vs
    pub g : PlainFunction
    pub is_g : slice_get p.program.functions n ≡ Some g
    pub size : length args ≡ g.params
    pub z : ℤ
    pub old : IsOldValue state vs x z
    pub ks : PlainTrees
    pub goes :
        Open p.N ks (at_call state g args x)
        (to_take g.requires (length state.envs) 3 number
        ∷ to_rest 0 number ∷ due g (length state.envs) home)
    pub walks :
        o
        ≡ walks_into true (interpreted (derivation p trees)) p.program ks
        (goals_of (at_call state g args x)
        (to_take g.requires (length state.envs) 3 number
        ∷ to_rest 0 number ∷ due g (length state.envs) home)) (calling_walk vs z)

  abbrev pub CallsThere : Traced Halt → Type 0
  CallsThere o = (o ≡ past_width) ⊎ CallingHere o

  -- from a node whose choice leads there
  takes-callee :
      (d : PlainTree) (k : Node p part T fn fixed (with_rest f r0) (running r0) d) (w : Walk) →
      Alike (Old k.state) k.v (valuation w.values) → AllZip FitsSort k.state.sorts w.values →
      w.regions ≡ rs → w.next ≡ pos (1 + length rs) → length fixed ≡ length fn.fixed →
      (g : PlainFunction) → slice_get p.program.functions n ≡ Some g → length args ≡ g.params →
      (ks : PlainTrees) →
      Open p.N ks (at_call k.state g args x)
      (to_take g.requires (length k.state.envs) 3 number
      ∷ to_rest 0 number ∷ due g (length k.state.envs) k.home) →
      CallsThere
      (walk_below (interpreted (derivation p trees)) p.program true ks
      (goals_of (at_call k.state g args x)
      (to_take g.requires (length k.state.envs) 3 number
      ∷ to_rest 0 number ∷ due g (length k.state.envs) k.home))
      (pass_callee k.state x (record w { events = [] })))
  takes-callee d k w alike sorted regions next count g is_g size ks goes =
      let s = k.state in
      let gs = goals_of (at_call s g args x)
      (to_take g.requires (length s.envs) 3 number
      ∷ to_rest 0 number ∷ due g (length s.envs) k.home) in
      let u = record w { events = [] } in
      let passes = λ (o : Traced NameValue). walk_below enter p.program true ks gs
      (o >>= λ v. on 0 (taking (record (bringing u (v ∷ [])) {
        fill = None;
        taken = [];
        awaited = length w.values;
      }))) in
      let at = node_at p part T fn fixed (with_rest f r0) (running r0) d k (valuation w.values)
      alike count in
      elim (result-or s x u) [
        | inl wide ↦ inl (ap passes wide ∙ below-wide enter p.program true ks gs)
        | inr r ↦ inr (record {
          state = s;
          home = k.home;
          vs = w.values;
          none_open = at.none_open;
          grounded = at.grounded;
          facts = at.facts;
          firm = at.firm;
          backed = at.backed;
          store = at.store;
          sorted = sorted;
          g = g;
          is_g = is_g;
          size = size;
          z = r.0;
          old = r.2;
          ks = ks;
          goes = goes;
          walks =
              ap passes r.1
              ∙ (λ i. walks_into true enter p.program ks gs (record {
                values = w.values ++ a_number r.0 ∷ [];
                regions = regions i;
                next = next i;
                taken = nothing_taken ∷ [];
                fill = None;
                events = [];
                awaited = length w.values;
              }));
        })
      ]

-- ---- from a frame that is tied

-- behind a call what the callee ensures is given
abbrev pub call_due : Label → Block → PlainFunction → ℕ → Home → List PlainTask
call_due l b g e h = to_give g.ensures.items e l.number ∷ running b h

abbrev pub fork_due : Block → PlainFunction → ℕ → Home → List PlainTask
fork_due b g e h = running b h

module _ (p : Checked) (trees : List (Option PlainTree)) (wf : IsWellFormed p.program)
    (give : GivenLaw p) (law : TakenLaw p) (rests : RestsLaw p) (stable : Stable p.program)
    (part : Stock) (T : Table) (roomy : Roomy p.program T part) (fixed : List NameValue)
    (f : Frame) (l : Label) (n : ℕ) (args : List Linear) (b : Block)
    (rs : List TrackedRegion) (event : Event) (top : TrackedFrame) (tells : Tells rs T) where
  module _ (x : Option ℕ)
      (tied : Tied p trees part T fixed (with_rest f (first l (call x n args) b)) top) where
    abbrev r0 : Block
    r0 = first l (call x n args) b

    abbrev fn : PlainFunction
    fn = tied.stood.fn

    -- it calls, or its walk is too wide
    pub frame-calls :
        CallsThere p trees part T tied.stood.fn fixed f (first l (call x n args) b) l.number n args
        x
        (call_due l b) rs (frame_walk (derivation p trees) true rs top (top.since ++ event ∷ []))
    frame-calls =
        let ok = tied.stood.ok in
        let now = tied.stood.all T (relies-same p.program part.guards T) in
        from-node p trees part T fixed (with_rest f r0) rs event top tied tells true
        (CallsThere p trees part T fn fixed f r0 l.number n args x (call_due l b) rs) (inl refl)
        (λ w alike sorted regions next. at now.tree now.at_node w alike sorted regions next)
      where
        at :
            (d : PlainTree)
            (k : Node p part T tied.stood.fn fixed (with_rest f (first l (call x n args) b))
            (running (first l (call x n args) b)) d) (w : Walk) →
            Alike (Old k.state) k.v (valuation w.values) → AllZip FitsSort k.state.sorts w.values →
            w.regions ≡ rs → w.next ≡ pos (1 + length rs) →
            CallsThere p trees part T tied.stood.fn fixed f (first l (call x n args) b) l.number n
            args x (call_due l b) rs
            (walk (interpreted (derivation p trees)) p.program true d
            (goal k.state (running (first l (call x n args) b) k.home))
            (record w { events = event ∷ [] }))
        at (node (by_absurd c) ks) k w alike sorted regions next =
            given-up p part T fn fixed (with_rest f r0) (λ h. to_run h r0) c ks k
        at (node by_call ks) k w alike sorted regions next =
            let g = goal k.state (running r0 k.home) in
            let q = call-leads p wf give law rests stable part T fn fixed roomy f l x n args b ks k
            (Left p by_call ks g)
            (node-leads p by_call ks k.state (running r0 k.home) k.valid) in
            let act = point-act p.program fn l (call x n args) b tied.stood.ok.point in
            let size = subst (λ o. IsSomeAnd o (λ g. length args ≡ g.params)) q.1 act.1.arity in
            subst (CallsThere p trees part T fn fixed f r0 l.number n args x (call_due l b) rs)
            (ap (λ gs. walk_below (interpreted (derivation p trees)) p.program true ks gs
            (pass_callee k.state x (record w { events = [] }))) (sym q.2.0))
            (takes-callee p trees part T fn fixed f r0 l.number n args x (call_due l b) rs
            (node by_call ks) k w alike sorted regions next
            (values-length fn.fixed fixed tied.stood.ok.values) q.0 q.1 size ks q.2.1)
        at d k w alike sorted regions next = absurd (p.step k.valid).1

  module _ (tied : Tied p trees part T fixed (with_rest f (first l (fork n args) b)) top) where
    abbrev r1 : Block
    r1 = first l (fork n args) b

    abbrev fn1 : PlainFunction
    fn1 = tied.stood.fn

    -- it forks, or its walk is too wide
    pub frame-forks :
        CallsThere p trees part T tied.stood.fn fixed f (first l (fork n args) b) l.number n args
        None (fork_due b) rs (frame_walk (derivation p trees) true rs top (top.since ++ event ∷ []))
    frame-forks =
        let now = tied.stood.all T (relies-same p.program part.guards T) in
        from-node p trees part T fixed (with_rest f r1) rs event top tied tells true
        (CallsThere p trees part T fn1 fixed f r1 l.number n args None (fork_due b) rs) (inl refl)
        (λ w alike sorted regions next. at now.tree now.at_node w alike sorted regions next)
      where
        at :
            (d : PlainTree)
            (k : Node p part T tied.stood.fn fixed (with_rest f (first l (fork n args) b))
            (running (first l (fork n args) b)) d) (w : Walk) →
            Alike (Old k.state) k.v (valuation w.values) → AllZip FitsSort k.state.sorts w.values →
            w.regions ≡ rs → w.next ≡ pos (1 + length rs) →
            CallsThere p trees part T tied.stood.fn fixed f (first l (fork n args) b) l.number n
            args None (fork_due b) rs
            (walk (interpreted (derivation p trees)) p.program true d
            (goal k.state (running (first l (fork n args) b) k.home))
            (record w { events = event ∷ [] }))
        at (node (by_absurd c) ks) k w alike sorted regions next =
            given-up p part T fn1 fixed (with_rest f r1) (λ h. to_run h r1) c ks k
        at (node by_fork ks) k w alike sorted regions next =
            let g = goal k.state (running r1 k.home) in
            let q = fork-leads p wf give law rests stable part T fn1 fixed roomy f l n args b ks k
            (Left p by_fork ks g)
            (node-leads p by_fork ks k.state (running r1 k.home) k.valid) in
            let act = point-act p.program fn1 l (fork n args) b tied.stood.ok.point in
            let size = subst (λ o. IsSomeAnd o (λ g. length args ≡ g.params)) q.1 act.arity in
            subst (CallsThere p trees part T fn1 fixed f r1 l.number n args None (fork_due b) rs)
            (ap (λ gs. walk_below (interpreted (derivation p trees)) p.program true ks gs
            (pass_callee k.state None (record w { events = [] }))) (sym q.2.0))
            (takes-callee p trees part T fn1 fixed f r1 l.number n args None (fork_due b) rs
            (node by_fork ks) k w alike sorted regions next
            (values-length fn1.fixed fixed tied.stood.ok.values) q.0 q.1 size ks q.2.1)
        at d k w alike sorted regions next = absurd (p.step k.valid).1
