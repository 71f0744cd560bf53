-- A frame at a loop owes the loop's invariant: what its walk takes for it is given up, met by the fill
-- on top, and the frame begins a turn of the loop with just that.
use Rattle.std.proofs.Common.{false, List, [], ◌∷◌, Option, Some, refl, ap}
use Rattle.cap_prog.specs.declared.assertion.Comp.{Comp}
use Rattle.cap_prog.specs.Program.{PlainAssertion, Label, loop, Block, first, PlainFunction}
use Rattle.cap_prog.specs.WellFormed.{IsWellFormed}
use Rattle.cap_goal_spec.specs.States.{to_run, goal}
use Rattle.cap_goal_spec.specs.Choices.{by_absurd, by_loop, PlainTree, node}
use Rattle.cap_machine.specs.Machine.{Frame, with_rest}
use Rattle.cap_machine.specs.declared.event.Event.{Event}
use Rattle.cap_machine_accounts.specs.Assertions.{NameValue}
use Rattle.cap_account_resources.specs.Parts.{Table}
use Rattle.cap_account_resources.proofs.Stocks.{Stock}
use Rattle.cap_account_states.proofs.Checked.{Checked}
use Rattle.cap_account_assertions.proofs.Laws.{TakenLaw}
use Rattle.cap_account_steps.proofs.Frames.{Roomy}
use Rattle.cap_account_steps.proofs.Local.{given-up}
use Rattle.cap_account_steps.proofs.Points.{FrameOk}
use Rattle.cap_account_steps.proofs.Returning.{head_env, head-leads}
use Rattle.cap_account_steps.proofs.Stores.{running}
use Rattle.cap_owners_spec.specs.Traced.{traced}
use Rattle.cap_owners_spec.specs.Track.{TrackedRegion}
use Rattle.cap_owners_spec.specs.Walks.{nothing_taken, descends, walk_below}
use Rattle.cap_owners_spec.specs.Steps.{interpreted}
use Rattle.cap_owners_walks_laws.proofs.Walks.Leading.{Left, node-leads}
use Rattle.cap_owners_runs_laws.proofs.Tracks.Tied.{derivation}
use Rattle.cap_owners_runs_laws.proofs.Steps.Owing.{Debt, DueLaw}

module _ (p : Checked) (trees : List (Option PlainTree)) (wf : IsWellFormed p.program)
    (law : TakenLaw p) (part : Stock) (T : Table) (roomy : Roomy p.program T part)
    (fixed : List NameValue) (f : Frame) (l : Label) (c : Comp) (inv : PlainAssertion)
    (body b : Block) (rs : List TrackedRegion) (event : Event) (fn : PlainFunction)
    (ok : FrameOk p.program fn fixed (with_rest f (first l (loop c inv body) b))) where
  -- what it owes
  abbrev pub head_debt : Debt
  head_debt = record {
    statement = first l (loop c inv body) b;
    choice = by_loop;
    env = λ s h. head_env p wf law part T fn fixed roomy s h inv;
    items = inv.items;
    number = l.number;
  }

  -- from the node at which the frame sits
  pub head-due : DueLaw p trees part T fixed f head_debt rs event fn
  head-due (node (by_absurd u) ks) n w valued sorted regions next =
      given-up p part T fn fixed (with_rest f (first l (loop c inv body) b))
      (λ h. to_run h (first l (loop c inv body) b)) u ks n
  head-due (node by_loop ks) n w valued sorted regions next =
      let r0 = first l (loop c inv body) b in
      let enter = interpreted (derivation p trees) in
      let g = goal n.state (running r0 n.home) in
      let q = head-leads p wf law part T fn fixed roomy f l c inv body b ks ok n (Left p by_loop ks g)
      (node-leads p by_loop ks n.state (running r0 n.home) n.valid) in
      let there = record w { taken = nothing_taken ∷ []; events = [] } in
      record {
        ks = ks;
        w = there;
        n = n;
        valued = valued;
        sorted = sorted;
        regions = regions;
        next = next;
        taken = refl;
        goes = q.1;
        walks =
            ap (λ gs. walk_below enter p.program false ks gs (traced (descends (Some 0) there))) q.0;
      }
  head-due d n w valued sorted regions next = absurd (p.step n.valid).1
