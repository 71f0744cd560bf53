use Rattle.std.proofs.Common.{ap}
use Rattle.std.proofs.lemmas.Result.{err_from_is_err_and}
use Rattle.cap_prog.specs.Views.{program_view}
use Rattle.cap_owners_spec.specs.Steps.{interpreted}
use Rattle.cap_owners_spec.specs.Walks.{Walk}
use Rattle.cap_owners_places.specs.Views.{proved_of}
use Rattle.cap_owners_walks.specs.Views.{opened_view}
use Rattle.cap_owners_walks.proofs.Walking.{enters-on, enters-stops}
use Rattle.cap_owners_walks.proofs.frame.enter_region.Goals as goal

pub returns-in_err-opened : goal.returns-in_err-opened
returns-in_err-opened c = λ ts are.
    let p = program_view c.args.program.now in
    let e = err_from_is_err_and c.from_residual.result c.from_residual.ensures.1 in
    rw (e.1, e.2) (enters-stops (interpreted (proved_of p ts)) p c.args.state.now c.args.walk.now c.args.fact c.in_err-opened.field-0.0 opened_view _ c.walk.inside.values (ap (λ (w : Walk). w.values) c.walk.view_is) c.in_err-opened.ensures)

pub returns : goal.returns
returns c = λ ts are.
    let p = program_view c.args.program.now in
    enters-on (interpreted (proved_of p ts)) p c.args.state.now c.args.walk.now c.args.fact (opened_view c.in_ok-opened.opened) c.enter_opened.result _ c.walk.inside.values (ap (λ (w : Walk). w.values) c.walk.view_is) c.in_ok-opened.ensures (c.enter_opened.ensures ts are)
