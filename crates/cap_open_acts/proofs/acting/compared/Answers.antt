use Rattle.std.proofs.lemmas.Result.{err_from_is_err_and}
use Rattle.cap_rules_steps.proofs.Walking.{no_memory}
use Rattle.cap_open_acts.proofs.acting.compared.Goals as goal

pub returns-in_err-next : goal.returns-in_err-next
returns-in_err-next c =
    let p = err_from_is_err_and c.from_residual.result c.from_residual.ensures.1 in
    rw (p.1, p.2) (no_memory _)

pub returns-in_err-with_comparison : goal.returns-in_err-with_comparison
returns-in_err-with_comparison c =
    let p = err_from_is_err_and c.from_residual-in_err-with_comparison.result c.from_residual-in_err-with_comparison.ensures.1 in
    let k = rw c.in_ok-next.ensures at c.in_err-with_comparison.ensures in
    rw (p.1, p.2) k

pub returns : goal.returns
returns c = rw c.in_ok-next.ensures at c.in_ok-with_comparison.ensures
