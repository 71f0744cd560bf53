use Rattle.std.proofs.Common.{ap}
use Rattle.std.proofs.lemmas.Result.{err_from_is_err_and}
use Rattle.cap_prog.specs.Views.{program_view}
use Rattle.cap_owners_spec.specs.Steps.{interpreted}
use Rattle.cap_owners_spec.specs.Walks.{Walk}
use Rattle.cap_owners_places.specs.Views.{proved_of}
use Rattle.cap_owners_walks.specs.Views.{interpreted_view, opened_view}
use Rattle.cap_owners_walks.proofs.Walking.{opened-on, opened-stops}
use Rattle.cap_owners_walks.proofs.frame.enter_opened.Goals as goal

pub returns-in_err-region : goal.returns-in_err-region
returns-in_err-region c = λ ts are.
    let e = err_from_is_err_and c.from_residual.result c.from_residual.ensures.1 in
    rw (e.1, e.2) (opened-stops (interpreted (proved_of (program_view c.args.program.now) ts)) c.args.walk.now c.walk.inside.regions (opened_view c.args.opened) c.in_err-region.field-0.0 interpreted_view _ (ap (λ (w : Walk). w.regions) c.walk.view_is) (c.in_err-region.ensures ts are))

pub returns : goal.returns
returns c = λ ts are.
    opened-on (interpreted (proved_of (program_view c.args.program.now) ts)) c.args.walk.now c.walk.inside.regions (opened_view c.args.opened) (interpreted_view c.in_ok-region.region) _ (ap (λ (w : Walk). w.regions) c.walk.view_is) (c.in_ok-region.ensures ts are) c.in_ok-enter.ensures
