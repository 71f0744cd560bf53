use Rattle.std.proofs.lemmas.Result.{err_from_is_err_and}
use Rattle.cap_rules_steps.proofs.Walking.{done_as, then_made, then_narrow, unmade, wide}
use Rattle.std.proofs.Common.{ap}
use Rattle.cap_rules.specs.Giving.{given}
use Rattle.cap_take_give.proofs.giving.give_term.Goals as goal

pub returns-in_err-name_parts : goal.returns-in_err-name_parts
returns-in_err-name_parts c =
    let p = err_from_is_err_and c.from_residual.result c.from_residual.ensures.1 in
    rw (p.1, p.2) (unmade _ _ _ c.in_err-name_parts.ensures)

pub returns-in_err-value_at : goal.returns-in_err-value_at
returns-in_err-value_at c =
    let p = err_from_is_err_and c.from_residual-in_err-value_at.result c.from_residual-in_err-value_at.ensures.1 in
    rw (p.1, p.2) (then_made _ _ _ _ c.in_ok-name_parts.ensures (wide _ _ _ c.in_err-value_at.ensures))

pub returns : goal.returns
returns c =
    then_made _ _ _ _ c.in_ok-name_parts.ensures (then_narrow _ _ _ c.in_ok-value_at.ensures.0 (done_as _ _ (ap (given _) c.in_ok-value_at.ensures.1)))
