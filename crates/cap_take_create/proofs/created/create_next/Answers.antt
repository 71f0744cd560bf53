use Rattle.std.proofs.lemmas.Result.{err_from_is_err_and}
use Rattle.cap_prog.specs.Views.{case_view, item_view, program_view, region_view}
use Rattle.cap_take_items.specs.Views.{remaining_view}
use Rattle.cap_rules_steps.proofs.Walking.{then_made, unmade}
use Rattle.cap_take_create.proofs.Beginning.{begun-rest}
use Rattle.cap_take_create.proofs.created.create_next.Goals as goal

pub returns-in_err-there : goal.returns-in_err-there
returns-in_err-there c =
    let p = err_from_is_err_and c.from_residual.result c.from_residual.ensures.1 in
    rw (p.1, p.2) (unmade _ _ _ c.in_err-there.ensures)

pub returns-in_err-begun : goal.returns-in_err-begun
returns-in_err-begun c =
    let p = err_from_is_err_and c.from_residual-in_err-begun.result c.from_residual-in_err-begun.ensures.1 in
    rw (p.1, p.2) (then_made _ _ _ _ c.in_ok-there.ensures (unmade _ _ _ c.in_err-begun.ensures))

pub returns-in_err-check_unbound : goal.returns-in_err-check_unbound
returns-in_err-check_unbound c =
    let p = err_from_is_err_and c.from_residual-in_err-check_unbound.result c.from_residual-in_err-check_unbound.ensures.1 in
    rw (p.1, p.2) (then_made _ _ _ _ c.in_ok-there.ensures (then_made _ _ _ _ c.in_ok-begun.ensures (unmade _ _ _ c.in_err-check_unbound.ensures)))

pub returns-in_err-values : goal.returns-in_err-values
returns-in_err-values c =
    let p = err_from_is_err_and c.from_residual-in_err-values.result c.from_residual-in_err-values.ensures.1 in
    rw (p.1, p.2) (then_made _ _ _ _ c.in_ok-there.ensures (then_made _ _ _ _ c.in_ok-begun.ensures (then_made _ _ _ _ c.in_ok-check_unbound.ensures (unmade _ _ _ c.in_err-values.ensures))))

pub returns : goal.returns
returns c =
    let a = c.args in
    let b = begun-rest (program_view a.program.now) a.state.now (region_view c.in_ok-there.there.now) (case_view c.in_ok-begun.begun.now) a.case a.kind c.in_ok-values.values.items a.slot.now (item_view a.item.now) a.left (remaining_view a.rest.now) _ c.begin.ensures in
    then_made _ _ _ _ c.in_ok-there.ensures (then_made _ _ _ _ c.in_ok-begun.ensures (then_made _ _ _ _ c.in_ok-check_unbound.ensures (then_made _ _ _ _ c.in_ok-values.ensures b)))
