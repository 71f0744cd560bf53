-- A frame that makes a step of its own stays tied to its walk, and what the track keeps for it.
use Rattle.std.proofs.Common.{◌≡◌, ◌⊎◌, ◌≤◌, ℤ, false, List, [], ◌∷◌, ◌++◌, Option, sym, ap, subst, arith}
use Rattle.std.specs.FinMap.{get}
use Rattle.cap_goal_spec.specs.Choices.{PlainTree}
use Rattle.cap_goal_spec.specs.States.{PlainGoal}
use Rattle.cap_machine.specs.Machine.{Heap, Frame}
use Rattle.cap_machine.specs.declared.event.Event.{Event}
use Rattle.cap_machine_accounts.specs.Parts.{Part}
use Rattle.cap_machine_accounts.specs.Assertions.{NameValue}
use Rattle.cap_account_resources.specs.Parts.{cells_of, Table}
use Rattle.cap_account_resources.proofs.Interference.{Relies, relies-same}
use Rattle.cap_account_resources.proofs.Stocks.{Stock}
use Rattle.cap_account_states.proofs.Checked.{Checked}
use Rattle.cap_account_states.proofs.KnowsLater.{backed-at}
use Rattle.cap_account_states.proofs.Meets.{Old, usable-old}
use Rattle.cap_account_steps.proofs.Points.{FrameOk}
use Rattle.cap_account_steps.proofs.Stores.{running}
use Rattle.cap_account_steps.proofs.Frames.{Sits}
use Rattle.cap_owners_spec.specs.Traced.{traced, ◌>>=◌, valuation}
use Rattle.cap_owners_spec.specs.Track.{Place, TrackedRegion, TrackedFrame}
use Rattle.cap_owners_spec.specs.Filling.{with_cells}
use Rattle.cap_owners_spec.specs.Walks.{Walk, Halt, stands, leaves}
use Rattle.cap_owners_spec.specs.Steps.{Proved, interpreted, frame_walk, keeping}
use Rattle.cap_owners_walks_laws.proofs.Fills.Drawn.{Tells}
use Rattle.cap_owners_laws.specs.Owned.{IsTold}
use Rattle.cap_owners_walks_laws.proofs.Walks.Going.{goes_on, frame-goes-on}
use Rattle.cap_owners_runs_laws.proofs.Tracks.Tied.{StopsSo, derivation, IsAtNode, Tied}
use Rattle.cap_owners_walks_laws.proofs.Parts.Telling.{told-on}
use Rattle.cap_owners_runs_laws.proofs.Steps.Onward.{LedOn}
use Rattle.cap_owners_walks_laws.proofs.Parts.Putting.{IsCellAt, needed-in, put-told}

-- the frame with these cells
abbrev pub holding : TrackedFrame → Heap → TrackedFrame
holding t h = record t { held = record t.held { part = record t.held.part { cells = h } } }

module _ (p : Checked) (trees : List (Option PlainTree)) where
  abbrev d : Proved
  d = derivation p trees

  -- ---- its walk

  pub led-on :
      (part later : Stock) (T : Table) (fixed : List NameValue) (f g : Frame) (t : TrackedFrame)
      (event : Event) (tied : Tied p trees part T fixed f t) (U : Table)
      (r : Relies p.program part.guards T U) (rs : List TrackedRegion)
      (led : LedOn p trees U tied.stood.fn fixed event part later f g (running f.rest)
      (tied.stood.all U r).tree (tied.stood.all U r).at_node) (h : Halt) →
      StopsSo (IsAtNode p trees rs part U tied.stood.fn fixed f (tied.stood.all U r)) h →
      IsTold (StopsSo (IsAtNode p trees rs later U tied.stood.fn fixed g led.sits))
      (goes_on (interpreted (derivation p trees)) p.program false (event ∷ []) h)
  led-on part later T fixed f g t event tied U r rs led (stands q w) a =
      led.walks rs q w a.tree a.goal_is a.alike a.tidy
  led-on part later T fixed f g t event tied U r rs led (leaves w) a = absurd a

  -- Where each table that others can reach leads it on, it is tied with the step more.
  abbrev pub tied-on :
      (part later : Stock) (T : Table) (fixed : List NameValue) (f g : Frame) (t : TrackedFrame)
      (event : Event) (tied : Tied p trees part T fixed f t) →
      FrameOk p.program tied.stood.fn fixed g →
      (less : (U : Table) → Relies p.program later.guards T U → Relies p.program part.guards T U) →
      ((U : Table) (r : Relies p.program part.guards T U) →
      LedOn p trees U tied.stood.fn fixed event part later f g (running f.rest)
      (tied.stood.all U r).tree (tied.stood.all U r).at_node) →
      Tied p trees later T fixed g (record t { since = t.since ++ event ∷ [] })
  tied-on part later T fixed f g t event tied ok less led = record {
    stood = record { fn = tied.stood.fn; ok = ok; all = λ U r. (led U (less U r)).sits };
    fits = tied.fits;
    walks = λ U r rs tells.
        subst
        (IsTold (StopsSo (IsAtNode p trees rs later U tied.stood.fn fixed g
        (led U (less U r)).sits))) (sym (frame-goes-on d false rs t t.since event []))
        (told-on
        (StopsSo (IsAtNode p trees rs part U tied.stood.fn fixed f (tied.stood.all U (less U r))))
        (StopsSo (IsAtNode p trees rs later U tied.stood.fn fixed g (led U (less U r)).sits))
        (frame_walk d false rs t t.since) (goes_on (interpreted d) p.program false (event ∷ []))
        (tied.walks U (less U r) rs tells)
        (led-on part later T fixed f g t event tied U (less U r) rs (led U (less U r))));
  }

  -- ---- its part

  module _ (part : Stock) (T : Table) (fixed : List NameValue) (g : Frame) (t : TrackedFrame)
      (h : Heap) (rs : List TrackedRegion) (tied : Tied p trees part T fixed g t)
      (within : (a z : ℤ) → part.cells a z ≤ cells_of h a z) where
    abbrev now : Sits p part T tied.stood.fn fixed g
    now = tied.stood.all T (relies-same p.program part.guards T)

    -- what it has not had yet is a cell of the state
    abbrev Brings : Walk → Type 0
    Brings w =
        (a : ℤ) →
        (get t.held.part.cells a ≡ get h a)
        ⊎ IsCellAt (valuation w.values) a now.at_node.state.cells

    holds-there :
        (q : Place) (w : Walk) →
        IsAtNode p trees rs part T tied.stood.fn fixed g now q w → Brings w →
        IsTold (λ f. f ≡ holding t h) (keeping d t (stands q w))
    holds-there q w a brings =
        let s = now.at_node.state in
        let v = valuation w.values in
        let backed = backed-at p.program s [] (Old s) now.at_node.v v part
        (usable-old [] s.sorts) a.alike now.at_node.grounded now.at_node.backed in
        subst
        (λ (m : PlainGoal). IsTold (λ f. f ≡ holding t h)
        (with_cells w.values t.held.part m.state.cells
        >>= λ y. traced (record t { held = record t.held { part = y } }))) (sym a.goal_is)
        (told-on (λ r. r ≡ record { cells = h; guards = t.held.part.guards })
        (λ f. f ≡ holding t h) (with_cells w.values t.held.part s.cells)
        (λ y. traced (record t { held = record t.held { part = y } }))
        (put-told w.values h s.cells t.held.part
        (needed-in v h s.cells (λ b z.
        (let i = backed.cells b z in let j = within b z in omega (arith, i, j))))
        brings)
        (λ y e. ap (λ (y : Part). record t { held = record t.held { part = y } }) e))

    -- it keeps its part, with the cells that the state has then
    pub keeps-told :
        Tells rs T →
        ((q : Place) (w : Walk) → IsAtNode p trees rs part T tied.stood.fn fixed g now q w →
        Brings w) →
        IsTold (λ f. f ≡ holding t h) (frame_walk d false rs t t.since >>= keeping d t)
    keeps-told tells brings =
        told-on (StopsSo (IsAtNode p trees rs part T tied.stood.fn fixed g now))
        (λ f. f ≡ holding t h) (frame_walk d false rs t t.since) (keeping d t)
        (tied.walks T (relies-same p.program part.guards T) rs tells) on
      where
        on :
            (o : Halt) → StopsSo (IsAtNode p trees rs part T tied.stood.fn fixed g now) o →
            IsTold (λ f. f ≡ holding t h) (keeping d t o)
        on (stands q w) a = holds-there q w a (brings q w a)
        on (leaves w) a = absurd a
