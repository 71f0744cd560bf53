use Rattle.std.proofs.Common.{ap, sym, ◌∙◌, false}
use Rattle.cap_prog.specs.Views.{program_view}
use Rattle.cap_owners_places.specs.Views.{proved_of}
use Rattle.cap_owners_spec.specs.Steps.{frame_walk}
use Rattle.cap_owners_values.proofs.Tracing.{goes_on}
use Rattle.cap_owners_walks.specs.Views.{halt_view}
use Rattle.cap_owners.specs.Moves.{keeps_at, moved_view}
use Rattle.cap_owners.specs.Tracks.{frame_view, frames_view}
use Rattle.cap_owners.proofs.moves.stays.Goals as goal

pub returns-clause-stays : goal.returns-clause-stays
returns-clause-stays c = λ ts are.
    let d = proved_of (program_view c.args.program.now) ts in
    let top = frame_view c.args.top in
    goes_on c.in_ok-halt.halt halt_view c.keep_on.result moved_view (frame_walk d false c.args.regions top top.since) (keeps_at d c.args.regions top (frames_view c.args.below.items))
    (ap (frame_walk d false c.args.regions top) (sym (c.deref-2.ensures.value ∙ (c.in_ok-events.ensures.items ∙ c.deref.ensures.value))) ∙ c.in_ok-halt.ensures.walked ts are)
    (c.keep_on.ensures.keeps d)
