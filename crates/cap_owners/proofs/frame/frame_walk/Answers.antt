use Rattle.std.proofs.lemmas.Result.{err_from_is_err_and}
use Rattle.cap_prog.specs.Views.{program_view}
use Rattle.cap_owners_places.specs.Views.{proved_of}
use Rattle.cap_owners_walks.specs.Views.{halt_view}
use Rattle.cap_owners.specs.Tracks.{frame_view}
use Rattle.cap_owners.proofs.Going.{walk-stops, walk-goes}
use Rattle.cap_owners.proofs.Placing.{lent-seen}
use Rattle.cap_owners.proofs.frame.frame_walk.Goals as goal

pub returns-in_err-fill-clause-walked : goal.returns-in_err-fill-clause-walked
returns-in_err-fill-clause-walked c = λ ts are.
    let e = err_from_is_err_and c.from_residual.result c.from_residual.ensures.1 in
    rw (e.1, e.2)
    (walk-stops (proved_of (program_view c.args.program.now) ts) c.args.seating c.args.regions.now (frame_view c.args.frame.now) c.args.events.now _ (lent-seen _ _ c.as_ref.ensures.value) c.in_err-fill.field-0.0 (λ o. o) halt_view (c.in_err-fill.ensures ts))

pub returns-clause-walked : goal.returns-clause-walked
returns-clause-walked c = λ ts are.
    walk-goes (proved_of (program_view c.args.program.now) ts) c.args.seating c.args.regions.now (frame_view c.args.frame.now) c.args.events.now _ (lent-seen _ _ c.as_ref.ensures.value) c.in_ok-fill.fill c.in_ok-walk.walk c.walk_frame.result halt_view (c.in_ok-fill.ensures ts) c.in_ok-walk.ensures (c.walk_frame.ensures.walked ts are)
