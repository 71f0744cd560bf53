-- A frame whose statement owes an assertion: its walk comes to a Take of that and nothing else, at the
-- values of the walk. A frame that returns owes what its function ensures.
use Rattle.std.proofs.Common.{◌≡◌, ◌⊎◌, inl, inr, pos, ◌+◌, false, List, [], ◌∷◌, ◌++◌, length, Option, Some, refl, sym, ap, ◌∙◌, subst, ℕ}
use Rattle.std.specs.List.{AllZip}
use Rattle.cap_lin.specs.Linear.{Linear}
use Rattle.cap_lin.specs.Values.{Valuation}
use Rattle.cap_prog.specs.Program.{Label, give_back, Block, first, PlainFunction, Items}
use Rattle.cap_prog.specs.WellFormed.{IsWellFormed}
use Rattle.cap_goal_spec.specs.States.{Home, PlainTask, to_run, to_take, goal, goals_of, PlainEnv, PlainState}
use Rattle.cap_goal_spec.specs.Choices.{by_absurd, by_return, PlainTree, node, PlainTrees, PlainChoice}
use Rattle.cap_machine.specs.Machine.{Frame, with_rest}
use Rattle.cap_machine.specs.declared.event.Event.{Event}
use Rattle.cap_machine_accounts.specs.Assertions.{NameValue}
use Rattle.cap_account_resources.specs.Parts.{Table}
use Rattle.cap_account_resources.proofs.Interference.{relies-same}
use Rattle.cap_account_resources.proofs.Stocks.{Stock}
use Rattle.cap_account_states.specs.Nodes.{Open}
use Rattle.cap_account_states.proofs.Alike.{Alike, meets-alike}
use Rattle.cap_account_states.proofs.Attempts.{env_added}
use Rattle.cap_account_states.proofs.Checked.{Checked}
use Rattle.cap_account_states.proofs.Facts.{facts-on}
use Rattle.cap_account_states.proofs.KnowsLater.{backed-at}
use Rattle.cap_account_states.proofs.Meets.{Old, usable-old, same-state}
use Rattle.cap_account_states.proofs.Roots.{values-length}
use Rattle.cap_account_assertions.proofs.Laws.{TakenLaw}
use Rattle.cap_account_steps.proofs.Points.{FrameOk}
use Rattle.cap_account_steps.proofs.Stores.{running, store-alike}
use Rattle.cap_account_steps.proofs.Frames.{Node, Sits, Roomy}
use Rattle.cap_account_steps.proofs.Local.{given-up}
use Rattle.cap_account_steps.proofs.Returning.{return_env, return-leads}
use Rattle.cap_owners_spec.specs.Traced.{Traced, traced, past_width, untold, ◌>>=◌, valuation}
use Rattle.cap_owners_spec.specs.Track.{TrackedRegion, TrackedFrame}
use Rattle.cap_owners_spec.specs.Walks.{Walk, nothing_taken, Interpreting, Halt, stands, leaves, walk, walk_below, descends}
use Rattle.cap_owners_spec.specs.Steps.{interpreted, frame_walk}
use Rattle.cap_owners_laws.specs.Owned.{IsTold}
use Rattle.cap_owners_walks_laws.proofs.Values.More.{FitsSort}
use Rattle.cap_owners_walks_laws.proofs.Fills.Drawn.{Tells}
use Rattle.cap_owners_walks_laws.proofs.Walks.Going.{goes_on, frame-goes-on}
use Rattle.cap_owners_walks_laws.proofs.Walks.Leading.{Left, node-leads}
use Rattle.cap_owners_walks_laws.proofs.Passes.Rests.{into}
use Rattle.cap_owners_runs_laws.proofs.Tracks.Tied.{StopsSo, derivation, IsAtNode, Tied}

-- ---- the same node, by alike values

abbrev pub node_at :
    (p : Checked) (part : Stock) (T : Table) (fn : PlainFunction) (fixed : List NameValue)
    (f : Frame) (tasks : Home → List PlainTask) (t : PlainTree)
    (n : Node p part T fn fixed f tasks t) (w : Valuation) → Alike (Old n.state) n.v w →
    length fixed ≡ length fn.fixed → Node p part T fn fixed f tasks t
node_at p part T fn fixed f tasks t n w a size = record {
  state = n.state;
  v = w;
  home = n.home;
  valid = n.valid;
  none_open = n.none_open;
  grounded = record {
    meets = meets-alike [] n.v w n.state a n.grounded.meets;
    pieces_over = n.grounded.pieces_over;
    pieces_fit = n.grounded.pieces_fit;
  };
  facts = facts-on [] n.v w T n.state n.state (same-state n.state) a n.facts;
  firm = n.firm;
  backed =
      backed-at p.program n.state [] (Old n.state) n.v w part (usable-old [] n.state.sorts) a
      n.grounded n.backed;
  store =
      store-alike n.v w n.state n.state n.home fn fixed f n.grounded.meets.store_over a
      (λ x o e. e) refl size n.store;
}

-- ---- what is owed

-- what a statement owes: the choice at its node, the environment of the names in a state, the items
pub record Debt : Type 0 where
  pub statement : Block
  pub choice : PlainChoice
  pub env : PlainState → Home → PlainEnv
  pub items : Items
  pub number : ℕ

module _ (p : Checked) (trees : List (Option PlainTree)) (part : Stock) (T : Table)
    (fixed : List NameValue) (f : Frame) (u : Debt) (rs : List TrackedRegion) (event : Event) where
  abbrev enter : Interpreting
  enter = interpreted (derivation p trees)

  abbrev owing : Frame
  owing = with_rest f u.statement

  -- a walk is to take the items, and nothing else, at the values at which the node holds of the frame
  pub record IsDue (fn : PlainFunction) (o : Traced Halt) : Type 0 where
    pub ks : PlainTrees
    pub w : Walk
    pub n : Node p part T fn fixed (with_rest f u.statement) (running u.statement)
        (node u.choice ks)
    pub valued : n.v ≡ valuation w.values
    pub sorted : AllZip FitsSort n.state.sorts w.values
    pub regions : w.regions ≡ rs
    pub next : w.next ≡ pos (1 + length rs)
    pub taken : w.taken ≡ nothing_taken ∷ []
    pub goes :
        Open p.N ks (env_added n.state (u.env n.state n.home))
        (to_take u.items (length n.state.envs) 3 u.number ∷ [])
    pub walks :
        o
        ≡ into (interpreted (derivation p trees)) p.program ks
        (goals_of (env_added n.state (u.env n.state n.home))
        (to_take u.items (length n.state.envs) 3 u.number ∷ [])) w

  -- from each node at which the frame may sit
  abbrev pub DueLaw : PlainFunction → Type 0
  DueLaw fn =
      (d : PlainTree) →
      (n : Node p part T fn fixed (with_rest f u.statement) (running u.statement) d) (w : Walk) →
      n.v ≡ valuation w.values → AllZip FitsSort n.state.sorts w.values → w.regions ≡ rs →
      w.next ≡ pos (1 + length rs) →
      IsDue fn
      (walk (interpreted (derivation p trees)) p.program false d
      (goal n.state (running u.statement n.home)) (record w { events = event ∷ [] }))

  module _ (top : TrackedFrame)
      (tied : Tied p trees part T fixed (with_rest f u.statement) top) (tells : Tells rs T)
      (law : DueLaw tied.stood.fn) where
    abbrev now : Sits p part T tied.stood.fn fixed (with_rest f u.statement)
    now = tied.stood.all T (relies-same p.program part.guards T)

    -- it owes, or its walk is too wide
    abbrev pub DueThere : Traced Halt → Type 0
    DueThere o = (o ≡ past_width) ⊎ IsDue tied.stood.fn o

    pub frame-due :
        DueThere (frame_walk (derivation p trees) false rs top (top.since ++ event ∷ []))
    frame-due =
        by (frame_walk (derivation p trees) false rs top top.since) refl
        (tied.walks T (relies-same p.program part.guards T) rs tells)
      where
        by :
            (o : Traced Halt) → frame_walk (derivation p trees) false rs top top.since ≡ o →
            IsTold (StopsSo (IsAtNode p trees rs part T tied.stood.fn fixed
            (with_rest f u.statement)
            (tied.stood.all T (relies-same p.program part.guards T)))) o →
            DueThere (frame_walk (derivation p trees) false rs top (top.since ++ event ∷ []))
        by past_width e h =
            inl (frame-goes-on (derivation p trees) false rs top top.since event []
            ∙ ap (λ o. o >>= goes_on (interpreted (derivation p trees)) p.program false
            (event ∷ [])) e)
        by untold e h = absurd h
        by (traced (leaves w)) e h = absurd h
        by (traced (stands q w)) e a =
            let n = node_at p part T tied.stood.fn fixed (with_rest f u.statement)
            (running u.statement) now.tree now.at_node (valuation w.values) a.alike
            (values-length tied.stood.fn.fixed fixed tied.stood.ok.values) in
            let same = frame-goes-on (derivation p trees) false rs top top.since event []
            ∙ ap (λ o. o >>= goes_on (interpreted (derivation p trees)) p.program false
            (event ∷ [])) e
            ∙ (λ i. walk (interpreted (derivation p trees)) p.program false (a.tree i) (a.goal_is i)
            (record w { events = a.tidy.events i ++ event ∷ [] })) in
            subst DueThere (sym same)
            (inr (law now.tree n w refl a.tidy.sorted a.tidy.regions a.tidy.next))

-- ---- a frame that returns

module _ (p : Checked) (trees : List (Option PlainTree)) (wf : IsWellFormed p.program)
    (law : TakenLaw p) (part : Stock) (T : Table) (roomy : Roomy p.program T part)
    (fixed : List NameValue) (f : Frame) (l : Label) (t : Linear) (b : Block)
    (rs : List TrackedRegion) (event : Event) (fn : PlainFunction)
    (ok : FrameOk p.program fn fixed (with_rest f (first l (give_back t) b))) where
  -- what it owes
  abbrev pub return_debt : Debt
  return_debt = record {
    statement = first l (give_back t) b;
    choice = by_return;
    env = λ s h. return_env p wf law part T fn fixed roomy s h t;
    items = fn.ensures.items;
    number = l.number;
  }

  -- from the node at which the frame sits
  pub return-due : DueLaw p trees part T fixed f return_debt rs event fn
  return-due (node (by_absurd c) ks) n w valued sorted regions next =
      given-up p part T fn fixed (with_rest f (first l (give_back t) b))
      (λ h. to_run h (first l (give_back t) b)) c ks n
  return-due (node by_return ks) n w valued sorted regions next =
      let r0 = first l (give_back t) b in
      let enter = interpreted (derivation p trees) in
      let g = goal n.state (running r0 n.home) in
      let q = return-leads p wf law part T fn fixed roomy f l t b ks ok n (Left p by_return ks g)
      (node-leads p by_return ks n.state (running r0 n.home) n.valid) in
      let there = record w { taken = nothing_taken ∷ []; events = [] } in
      record {
        ks = ks;
        w = there;
        n = n;
        valued = valued;
        sorted = sorted;
        regions = regions;
        next = next;
        taken = refl;
        goes = q.1;
        walks =
            ap (λ gs. walk_below enter p.program false ks gs (traced (descends (Some 0) there))) q.0;
      }
  return-due d n w valued sorted regions next = absurd (p.step n.valid).1
