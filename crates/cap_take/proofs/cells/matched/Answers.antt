use Rattle.std.proofs.lemmas.Result.{err_from_is_err_and}
use Rattle.cap_rules_steps.proofs.Walking.{no_memory_claims}
use Rattle.cap_take.proofs.cells.matched.Goals as goal

pub returns-in_err-names : goal.returns-in_err-names
returns-in_err-names c =
    let p = err_from_is_err_and c.from_residual.result c.from_residual.ensures.1 in
    rw (p.1, p.2) (no_memory_claims _ _ _)

pub returns-in_err-match_slot : goal.returns-in_err-match_slot
returns-in_err-match_slot c =
    let p = err_from_is_err_and c.from_residual-in_err-match_slot.result c.from_residual-in_err-match_slot.ensures.1 in
    let k = rw (c.rows.ensures, c.in_ok-names.ensures) at c.in_err-match_slot.ensures in
    rw (p.1, p.2) k

pub returns : goal.returns
returns c = rw (c.rows.ensures, c.in_ok-names.ensures) at c.in_ok-match_slot.ensures
