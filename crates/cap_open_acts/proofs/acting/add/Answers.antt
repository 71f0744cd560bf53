use Rattle.std.proofs.lemmas.Result.{err_from_is_err_and}
use Rattle.cap_rules_steps.proofs.Walking.{then_narrow, wide, no_memory, done_as}
use Rattle.cap_open_acts.proofs.acting.add.Goals as goal

pub returns-in_err-more : goal.returns-in_err-more
returns-in_err-more c =
    let p = err_from_is_err_and c.from_residual.result c.from_residual.ensures.1 in
    rw (p.1, p.2) (wide _ _ _ c.in_err-more.ensures)

pub returns-in_err-sum : goal.returns-in_err-sum
returns-in_err-sum c =
    let p = err_from_is_err_and c.from_residual-in_err-sum.result c.from_residual-in_err-sum.ensures.1 in
    let m = rw c.in_ok-more.ensures.1 at c.in_err-sum.ensures.exact in
    rw (p.1, p.2) (then_narrow _ _ _ c.in_ok-more.ensures.0 (wide _ _ _ m))

pub returns-in_err-next : goal.returns-in_err-next
returns-in_err-next c =
    let p = err_from_is_err_and c.from_residual-in_err-next.result c.from_residual-in_err-next.ensures.1 in
    rw (p.1, p.2) (no_memory _)

pub returns-in_err-with_content : goal.returns-in_err-with_content
returns-in_err-with_content c =
    let p = err_from_is_err_and c.from_residual-in_err-with_content.result c.from_residual-in_err-with_content.ensures.1 in
    rw (p.1, p.2) (no_memory _)

pub returns-in_err-copy : goal.returns-in_err-copy
returns-in_err-copy c =
    let p = err_from_is_err_and c.from_residual-in_err-copy.result c.from_residual-in_err-copy.ensures.1 in
    rw (p.1, p.2) (no_memory _)

pub returns-in_err-with_local : goal.returns-in_err-with_local
returns-in_err-with_local c =
    let p = err_from_is_err_and c.from_residual-in_err-with_local.result c.from_residual-in_err-with_local.ensures.1 in
    rw (p.1, p.2) (no_memory _)

pub returns : goal.returns
returns c =
    let k = rw c.in_ok-more.ensures.1 at c.in_ok-sum.ensures.exact in
    let e = rw (c.in_ok-with_content.ensures, c.in_ok-next.ensures, k.1, c.in_ok-copy.ensures) at c.in_ok-with_local.ensures in
    then_narrow _ _ _ c.in_ok-more.ensures.0 (then_narrow _ _ _ k.0 (done_as _ _ e))
