use Rattle.std.proofs.lemmas.Result.{err_from_is_err_and}
use Rattle.cap_rules_steps.proofs.Walking.{made_claims, unmade_claims, claims_then, claims_fail, no_memory_claims, weaker, unmade, then_made, done_as}
use Rattle.cap_take_facts.proofs.stated.made.Goals as goal

pub returns-in_err-region : goal.returns-in_err-region
returns-in_err-region c =
    let p = err_from_is_err_and c.from_residual.result c.from_residual.ensures.1 in
    rw (p.1, p.2) (unmade_claims _ _ _ _ c.in_err-region.ensures)

pub returns-in_err-there : goal.returns-in_err-there
returns-in_err-there c =
    let p = err_from_is_err_and c.from_residual-in_err-there.result c.from_residual-in_err-there.ensures.1 in
    rw (p.1, p.2) (made_claims _ _ _ _ _ _ c.in_ok-region.ensures (unmade_claims _ _ _ _ c.in_err-there.ensures))

pub returns-in_err-prove_condition : goal.returns-in_err-prove_condition
returns-in_err-prove_condition c =
    let p = err_from_is_err_and c.from_residual-in_err-prove_condition.result c.from_residual-in_err-prove_condition.ensures.1 in
    rw (p.1, p.2) (made_claims _ _ _ _ _ _ c.in_ok-region.ensures (made_claims _ _ _ _ _ _ c.in_ok-there.ensures (claims_fail _ _ _ _ _ c.in_err-prove_condition.ensures)))

pub returns-in_err-value : goal.returns-in_err-value
returns-in_err-value c =
    let p = err_from_is_err_and c.from_residual-in_err-value.result c.from_residual-in_err-value.ensures.1 in
    rw (p.1, p.2) (made_claims _ _ _ _ _ _ c.in_ok-region.ensures (made_claims _ _ _ _ _ _ c.in_ok-there.ensures (claims_then _ _ _ _ _ _ _ c.in_ok-prove_condition.ensures (weaker _ _ _ (unmade _ _ _ c.in_err-value.ensures)))))

pub returns-in_err-args : goal.returns-in_err-args
returns-in_err-args c =
    let p = err_from_is_err_and c.from_residual-in_err-args.result c.from_residual-in_err-args.ensures.1 in
    rw (p.1, p.2) (made_claims _ _ _ _ _ _ c.in_ok-region.ensures (made_claims _ _ _ _ _ _ c.in_ok-there.ensures (claims_then _ _ _ _ _ _ _ c.in_ok-prove_condition.ensures (weaker _ _ _ (then_made _ _ _ _ c.in_ok-value.ensures (unmade _ _ _ c.in_err-args.ensures))))))

pub returns-in_err-copy : goal.returns-in_err-copy
returns-in_err-copy c =
    let p = err_from_is_err_and c.from_residual-in_err-copy.result c.from_residual-in_err-copy.ensures.1 in
    rw (p.1, p.2) (no_memory_claims _ _ _)

pub returns-in_err-next : goal.returns-in_err-next
returns-in_err-next c =
    let p = err_from_is_err_and c.from_residual-in_err-next.result c.from_residual-in_err-next.ensures.1 in
    let f = rw (c.fact_of-fact.ensures, c.in_ok-copy.ensures) at c.in_err-next.ensures in
    rw (p.1, p.2) (made_claims _ _ _ _ _ _ c.in_ok-region.ensures (made_claims _ _ _ _ _ _ c.in_ok-there.ensures (claims_then _ _ _ _ _ _ _ c.in_ok-prove_condition.ensures (weaker _ _ _ (then_made _ _ _ _ c.in_ok-value.ensures (then_made _ _ _ _ c.in_ok-args.ensures (unmade _ _ _ f)))))))

pub returns-in_err-left : goal.returns-in_err-left
returns-in_err-left c =
    let p = err_from_is_err_and c.from_residual-in_err-left.result c.from_residual-in_err-left.ensures.1 in
    rw (p.1, p.2) (no_memory_claims _ _ _)

pub returns : goal.returns
returns c =
    let f = rw (c.fact_of-fact.ensures, c.in_ok-copy.ensures) at c.in_ok-next.ensures in
    made_claims _ _ _ _ _ _ c.in_ok-region.ensures (made_claims _ _ _ _ _ _ c.in_ok-there.ensures (claims_then _ _ _ _ _ _ _ c.in_ok-prove_condition.ensures (weaker _ _ _ (then_made _ _ _ _ c.in_ok-value.ensures (then_made _ _ _ _ c.in_ok-args.ensures (then_made _ _ _ _ f (done_as _ _ c.in_ok-left.ensures)))))))
