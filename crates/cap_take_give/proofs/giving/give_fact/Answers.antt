use Rattle.std.proofs.lemmas.Result.{err_from_is_err_and}
use Rattle.cap_rules_steps.proofs.Walking.{then_made, unmade}
use Rattle.cap_take_give.proofs.giving.give_fact.Goals as goal

pub returns-in_err-region : goal.returns-in_err-region
returns-in_err-region c =
    let p = err_from_is_err_and c.from_residual.result c.from_residual.ensures.1 in
    rw (p.1, p.2) (unmade _ _ _ c.in_err-region.ensures)

pub returns-in_err-args : goal.returns-in_err-args
returns-in_err-args c =
    let p = err_from_is_err_and c.from_residual-in_err-args.result c.from_residual-in_err-args.ensures.1 in
    rw (p.1, p.2) (then_made _ _ _ _ c.in_ok-region.ensures (unmade _ _ _ c.in_err-args.ensures))

pub returns-in_err-last : goal.returns-in_err-last
returns-in_err-last c =
    let p = err_from_is_err_and c.from_residual-in_err-last.result c.from_residual-in_err-last.ensures.1 in
    rw (p.1, p.2) (then_made _ _ _ _ c.in_ok-region.ensures (then_made _ _ _ _ c.in_ok-args.ensures (unmade _ _ _ c.in_err-last.ensures)))

pub returns : goal.returns
returns c =
    let h = rw c.fact_of.ensures at c.with_fact.ensures in
    then_made _ _ _ _ c.in_ok-region.ensures (then_made _ _ _ _ c.in_ok-args.ensures (then_made _ _ _ _ c.in_ok-last.ensures h))
