use Rattle.std.proofs.lemmas.Result.{err_from_is_err_and}
use Rattle.cap_rules_steps.proofs.Walking.{no_memory_claims}
use Rattle.cap_open_acts.proofs.acting.marked.Goals as goal

pub returns-in_err-pairs : goal.returns-in_err-pairs
returns-in_err-pairs c =
    let p = err_from_is_err_and c.from_residual.result c.from_residual.ensures.1 in
    rw (p.1, p.2) (no_memory_claims _ _ _)

pub returns-in_err-next : goal.returns-in_err-next
returns-in_err-next c =
    let p = err_from_is_err_and c.from_residual-in_err-next.result c.from_residual-in_err-next.ensures.1 in
    rw (p.1, p.2) (no_memory_claims _ _ _)

pub returns-in_err-with_marks : goal.returns-in_err-with_marks
returns-in_err-with_marks c =
    let p = err_from_is_err_and c.from_residual-in_err-with_marks.result c.from_residual-in_err-with_marks.ensures.1 in
    let k = rw (c.in_ok-next.ensures, c.deref.ensures.value, c.in_ok-pairs.ensures) at c.in_err-with_marks.ensures in
    rw (p.1, p.2) k

pub returns : goal.returns
returns c = rw (c.in_ok-next.ensures, c.deref.ensures.value, c.in_ok-pairs.ensures) at c.in_ok-with_marks.ensures
