-- A frame that took a seat stands with what its state has, which backs the state at the seat, and is
-- within what there was for it.
use Rattle.std.proofs.Common.{◌≡◌, inl, inr, ◌≤◌, ℤ, false, List, [], ◌∷◌, Option, Some, None, refl, sym, ◌∙◌, subst}
use Rattle.cap_lin.specs.Values.{Valuation}
use Rattle.cap_prog.specs.Program.{PlainFunction}
use Rattle.cap_prog.specs.WellFormed.{IsWellFormed}
use Rattle.cap_goal_spec.specs.States.{PlainState, PlainTask, to_rest, goal, goals_of}
use Rattle.cap_goal_spec.specs.Choices.{PlainTree}
use Rattle.cap_machine.specs.Machine.{Heap, Frame}
use Rattle.cap_machine_accounts.specs.Parts.{Part}
use Rattle.cap_machine_accounts.specs.Assertions.{NameValue}
use Rattle.cap_account_resources.specs.Parts.{cells_of, Table}
use Rattle.cap_account_resources.proofs.Interference.{relies-same}
use Rattle.cap_account_resources.proofs.Stocks.{Stock, Inside}
use Rattle.cap_account_resources.proofs.Tables.{TableFits, FitsRoom}
use Rattle.cap_account_states.proofs.Alike.{alike-back, agree-alike, meets-alike}
use Rattle.cap_account_states.proofs.Backed.{Backed, Grounded}
use Rattle.cap_account_states.proofs.Checked.{Checked, lone-child}
use Rattle.cap_account_states.proofs.KnowsLater.{backed-at, backed-same}
use Rattle.cap_account_states.proofs.Meets.{usable-old, Old}
use Rattle.cap_account_states.proofs.Pieces.{AllFit}
use Rattle.cap_account_steps.proofs.Stores.{running}
use Rattle.cap_account_steps.proofs.Turning.{AsBefore, Reaching, backed-before}
use Rattle.cap_account.proofs.Stocked.{part_stock}
use Rattle.cap_owners_spec.specs.Traced.{traced, valuation}
use Rattle.cap_owners_spec.specs.Track.{Place, TrackedRegion, TrackedFrame}
use Rattle.cap_owners_spec.specs.Filling.{part_held}
use Rattle.cap_owners_spec.specs.Walks.{Walk, descends, Halt, stands, leaves, walk, walk_below}
use Rattle.cap_owners_spec.specs.Steps.{beginning, interpreted, frame_walk, owning, standing}
use Rattle.cap_owners_laws.specs.Owned.{IsTold}
use Rattle.cap_owners_walks_laws.proofs.Fills.Drawn.{Tells}
use Rattle.cap_owners_walks_laws.proofs.Parts.Held.{part-held}
use Rattle.cap_owners_walks_laws.proofs.Parts.Telling.{told-on}
use Rattle.cap_owners_walks_laws.proofs.Walks.Leading.{stops-running}
use Rattle.cap_owners_walks_laws.proofs.Passes.Rests.{RestsTo, rests-to}
use Rattle.cap_owners_runs_laws.proofs.Tracks.Seats.{Seat, seated_at}
use Rattle.cap_owners_runs_laws.proofs.Tracks.Tied.{StopsSo, derivation}
use Rattle.cap_owners_runs_laws.proofs.Steps.Standing.{with_part}

-- what backs a state whose facts have rested backs it before
backed-back :
    (p : Checked) (v w : Valuation) (s t : PlainState) → AsBefore v w s t → Grounded p.program [] v s →
    (q : Stock) → Backed p.program w t q → Backed p.program v s q
backed-back p v w s t c g q b =
    let pp = p.program in
    let a = agree-alike (Old s) v w c.agree in
    backed-at pp s [] (Old s) w v q (usable-old [] s.sorts) (alike-back (Old s) v w a) (record {
      meets = meets-alike [] v w s a g.meets;
      pieces_over = g.pieces_over;
      pieces_fit = g.pieces_fit;
    })
    (backed-same pp t s w q (sym c.cells) (sym c.guards) b)

module _ (p : Checked) (trees : List (Option PlainTree)) (wf : IsWellFormed p.program)
    (part : Stock) (T : Table) (fn : PlainFunction) (fixed : List NameValue) (f : Frame)
    (fits : TableFits p.program T) (room : FitsRoom p.program T part) (q : Place)
    (vs : List NameValue) (seat : Seat p trees part T fn fixed f (running f.rest) q vs)
    (rs : List TrackedRegion) (tells : Tells rs T) where
  abbrev s : PlainState
  s = seat.state

  abbrev due : List PlainTask
  due = running f.rest seat.home

  abbrev reaching : Reaching p.program part T T
  reaching = record {
    regions = wf.regions;
    fits = fits;
    room = room;
    relies = relies-same p.program part.guards T;
  }

  rested : RestsTo p part T T reaching seat.number due 0 seat.state seat.kids vs
  rested =
      rests-to p part T T reaching seat.number due s seat.kids vs seat.sorted seat.grounded seat.over
      seat.exact seat.backed seat.goes

  -- a state has what there is, and what backs it backs the seat's
  pub record Holds (there : Place) (w : Walk) : Type 0 where
    pub fit : AllFit p.program there.goal.state.guards
    pub backed : Backed p.program (valuation w.values) there.goal.state part
    pub back :
        (r : Stock) → Backed p.program (valuation w.values) there.goal.state r →
        Backed p.program (valuation vs) seat.state r

  abbrev start : Walk
  start = beginning rs vs [] None []

  walk-holds :
      (r : RestsTo p part T T reaching seat.number due 0 seat.state seat.kids vs) →
      IsTold (StopsSo Holds)
      (walk (interpreted (derivation p trees)) p.program false q.tree q.goal start)
  walk-holds r =
      let enter = interpreted (derivation p trees) in
      let after = r.rest.after in
      let d = lone-child p.N r.rest.children after due r.rest.goes in
      let last = record start { values = r.values } in
      let into_seat : walk_below enter p.program false seat.kids
      (goals_of s (to_rest 0 seat.number ∷ due)) (traced (descends (Some 0) start))
      ≡ walk enter p.program false q.tree q.goal start =
      λ i. walk_below enter p.program false (seat.tree_is i) (seat.goal_is i)
      (traced (descends (Some 0) start)) in
      let stop = stands (record { goal = goal after due; tree = d.0 }) last in
      let v = valuation vs in
      elim (r.walks enter start tells) [
        | inl wide ↦ subst (IsTold (StopsSo Holds)) (sym (sym into_seat ∙ wide)) tt
        | inr on ↦
            subst (IsTold (StopsSo Holds))
            (sym (sym into_seat ∙ on
            ∙ (λ i. walk_below enter p.program false (d.2 i) (goals_of after due)
            (traced (descends (Some 0) last)))
            ∙ stops-running p enter d.0 after seat.home f.rest [] last))
            (record {
              fit = r.rest.grounded.pieces_fit;
              backed =
                  subst (λ u. Backed p.program u after part) r.valued
                  (backed-before p.program [] v r.rest.w s after r.rest.as_before seat.grounded part
                  seat.backed);
              back = λ x b.
                  backed-back p v r.rest.w s after r.rest.as_before seat.grounded x
                  (subst (λ u. Backed p.program u after x) (sym r.valued) b);
            })
      ]

  -- the part that is printed
  pub seat-part :
      (heap : Heap) → ((a z : ℤ) → part.cells a z ≤ cells_of heap a z) → (t : TrackedFrame) →
      IsTold (λ g.
      (r : Part) × (g ≡ with_part (seated_at p trees t q vs) r)
      × Backed p.program (valuation vs) seat.state (part_stock r)
      × Inside p.program (part_stock r) part)
      (standing (derivation p trees) rs (seated_at p trees t q vs))
  seat-part heap within t =
      let d = derivation p trees in
      let g = seated_at p trees t q vs in
      let Q = λ (x : TrackedFrame). (r : Part) × (x ≡ with_part g r)
      × Backed p.program (valuation vs) seat.state (part_stock r)
      × Inside p.program (part_stock r) part in
      told-on (StopsSo Holds) Q (frame_walk d false rs g []) (owning d g) (walk-holds rested)
      (λ x k. by x k)
    where
      by :
          (x : Halt) → StopsSo Holds x →
          IsTold (λ y.
          (r : Part) × (y ≡ with_part (seated_at p trees t q vs) r)
          × Backed p.program (valuation vs) seat.state (part_stock r)
          × Inside p.program (part_stock r) part)
          (owning (derivation p trees) (seated_at p trees t q vs) x)
      by (leaves w) k = absurd k
      by (stands place w) k =
          let g = seated_at p trees t q vs in
          told-on
          (λ r. Backed p.program (valuation w.values) place.goal.state (part_stock r)
          × Inside p.program (part_stock r) part)
          (λ y.
          (r : Part) × (y ≡ with_part g r)
          × Backed p.program (valuation vs) seat.state (part_stock r)
          × Inside p.program (part_stock r) part)
          (part_held p.program place.goal.state w.values)
          (λ r. traced (record g { held = record g.held { part = r } }))
          (part-held p.program w.values place.goal.state part heap k.fit k.backed within)
          (λ r m. (r, refl, k.back (part_stock r) m.0, m.1))
