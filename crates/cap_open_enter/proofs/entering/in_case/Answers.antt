use Rattle.std.proofs.lemmas.Result.{err_from_is_err_and}
use Rattle.cap_rules_steps.proofs.Walking.{then_made, unmade, no_memory}
use Rattle.cap_open_enter.proofs.entering.in_case.Goals as goal

pub returns-in_err-next : goal.returns-in_err-next
returns-in_err-next c =
    let p = err_from_is_err_and c.from_residual.result c.from_residual.ensures.1 in
    rw (p.1, p.2) (no_memory _)

pub returns-in_err-with_sorts : goal.returns-in_err-with_sorts
returns-in_err-with_sorts c =
    let p = err_from_is_err_and c.from_residual-in_err-with_sorts.result c.from_residual-in_err-with_sorts.ensures.1 in
    let s' = rw (c.in_ok-next.ensures, c.deref.ensures.value) at c.in_err-with_sorts.ensures in
    rw (p.1, p.2) (unmade _ _ _ s')

pub returns-in_err-names : goal.returns-in_err-names
returns-in_err-names c =
    let p = err_from_is_err_and c.from_residual-in_err-names.result c.from_residual-in_err-names.ensures.1 in
    let s = rw (c.in_ok-next.ensures, c.deref.ensures.value) at c.in_ok-with_sorts.ensures in
    rw (p.1, p.2, c.in_err-names.ensures) (then_made _ _ _ _ s (no_memory _))

pub returns-in_err-with_case : goal.returns-in_err-with_case
returns-in_err-with_case c =
    let p = err_from_is_err_and c.from_residual-in_err-with_case.result c.from_residual-in_err-with_case.ensures.1 in
    let s = rw (c.in_ok-next.ensures, c.deref.ensures.value) at c.in_ok-with_sorts.ensures in
    let k = rw c.in_ok-names.ensures at c.in_err-with_case.ensures in
    rw (p.1, p.2) (then_made _ _ _ _ s k)

pub returns : goal.returns
returns c =
    let s = rw (c.in_ok-next.ensures, c.deref.ensures.value) at c.in_ok-with_sorts.ensures in
    let k = rw c.in_ok-names.ensures at c.in_ok-with_case.ensures in
    then_made _ _ _ _ s k
