use Rattle.std.proofs.Common.{reverse, ap, ◌∙◌}
use Rattle.std.proofs.lemmas.Result.{err_from_is_err_and}
use Rattle.cap_goal_spec.specs.States.{goals_of}
use Rattle.cap_rules_steps.proofs.Walking.{claims_then, claims_fail, made_claims, unmade_claims, weaker, done_as}
use Rattle.cap_open_moves.proofs.shifting.moved.Goals as goal

pub returns-in_err-prove_move : goal.returns-in_err-prove_move
returns-in_err-prove_move c =
    let p = err_from_is_err_and c.from_residual.result c.from_residual.ensures.1 in
    rw (p.1, p.2) (claims_fail _ _ _ _ _ c.in_err-prove_move.ensures)

pub returns-in_err-next : goal.returns-in_err-next
returns-in_err-next c =
    let p = err_from_is_err_and c.from_residual-in_err-next.result c.from_residual-in_err-next.ensures.1 in
    rw (p.1, p.2) (claims_then _ _ _ _ _ _ _ c.in_ok-prove_move.ensures (unmade_claims _ _ _ _ c.in_err-next.ensures))

pub returns : goal.returns
returns c =
    let e = c.in_ok-leaves.ensures ∙ ap (λ ts. goals_of c.in_ok-next.next (reverse ts)) c.in_ok-tasks.ensures in
    claims_then _ _ _ _ _ _ _ c.in_ok-prove_move.ensures (made_claims _ _ _ _ _ _ c.in_ok-next.ensures (weaker _ _ _ (done_as _ _ e)))
