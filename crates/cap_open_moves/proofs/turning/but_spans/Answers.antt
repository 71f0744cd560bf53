use Rattle.std.proofs.lemmas.Result.{err_from_is_err_and}
use Rattle.cap_rules_steps.proofs.Walking.{claims_then, claims_fail, made_claims, unmade_claims, weaker}
use Rattle.cap_open_moves.proofs.turning.but_spans.Goals as goal

pub returns-in_err-turn : goal.returns-in_err-turn
returns-in_err-turn c =
    let p = err_from_is_err_and c.from_residual.result c.from_residual.ensures.1 in
    rw (p.1, p.2) (claims_fail _ _ _ _ _ c.in_err-turn.ensures)

pub returns-in_err-indices_known : goal.returns-in_err-indices_known
returns-in_err-indices_known c =
    let p = err_from_is_err_and c.from_residual-in_err-indices_known.result c.from_residual-in_err-indices_known.ensures.1 in
    let h = rw c.deref.ensures.value at c.in_err-indices_known.ensures in
    rw (p.1, p.2) (claims_then _ _ _ _ _ _ _ c.in_ok-turn.ensures (unmade_claims _ _ _ _ h))

pub returns-in_err-prove_when : goal.returns-in_err-prove_when
returns-in_err-prove_when c =
    let p = err_from_is_err_and c.from_residual-in_err-prove_when.result c.from_residual-in_err-prove_when.ensures.1 in
    let h = rw c.deref.ensures.value at c.in_ok-indices_known.ensures in
    rw (p.1, p.2) (claims_then _ _ _ _ _ _ _ c.in_ok-turn.ensures (made_claims _ _ _ _ _ _ h (claims_fail _ _ _ _ _ c.in_err-prove_when.ensures)))

pub returns : goal.returns
returns c =
    let h = rw c.deref.ensures.value at c.in_ok-indices_known.ensures in
    claims_then _ _ _ _ _ _ _ c.in_ok-turn.ensures (made_claims _ _ _ _ _ _ h (claims_then _ _ _ _ _ _ _ c.in_ok-prove_when.ensures (weaker _ _ _ c.with_closed.ensures)))
