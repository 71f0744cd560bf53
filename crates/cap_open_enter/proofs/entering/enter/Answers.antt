use Rattle.std.proofs.lemmas.Result.{err_from_is_err_and}
use Rattle.cap_rules_steps.proofs.Walking.{made_claims, unmade_claims, claims_then, claims_fail, no_memory_claims, weaker}
use Rattle.std.proofs.Common.{◌<◌, ◌≤◌, ◌≡◌, length, arith, ap}
use Rattle.cap_rules_steps.specs.cap_goal_spec.States.{PlainFact}
use Rattle.cap_open_enter.proofs.Regions.{few-opened, many-opened, fact-exists}
use Rattle.cap_open_enter.proofs.entering.enter.Goals as goal

pub returns-in_err-heap_address : goal.returns-in_err-heap_address
returns-in_err-heap_address c =
    let p = err_from_is_err_and c.from_residual.result c.from_residual.ensures.1 in
    rw (p.1, p.2) (unmade_claims _ _ _ _ c.in_err-heap_address.ensures)

pub returns-in_err-fact : goal.returns-in_err-fact
returns-in_err-fact c =
    let p = err_from_is_err_and c.from_residual-in_err-fact.result c.from_residual-in_err-fact.ensures.1 in
    let h : length c.args.state.now.opened < 2 = rw (← c.opened.ensures) (omega arith) in
    let n = few-opened c.args.state.now h in
    let f' = rw c.facts.ensures at c.in_err-fact.ensures in
    rw (p.1, p.2) (made_claims _ _ _ _ _ _ c.in_ok-heap_address.ensures (made_claims _ _ _ _ _ _ n (unmade_claims _ _ _ _ f')))

pub returns-in_err-region : goal.returns-in_err-region
returns-in_err-region c =
    let p = err_from_is_err_and c.from_residual-in_err-region.result c.from_residual-in_err-region.ensures.1 in
    let h : length c.args.state.now.opened < 2 = rw (← c.opened.ensures) (omega arith) in
    let n = few-opened c.args.state.now h in
    let f = rw c.facts.ensures at c.in_ok-fact.ensures in
    let k : c.fact.inside.kind ≡ c.in_ok-fact.fact.now.kind = ap (λ (g : PlainFact). g.kind) c.fact.view_is in
    let r' = rw k at c.in_err-region.ensures in
    rw (p.1, p.2) (made_claims _ _ _ _ _ _ c.in_ok-heap_address.ensures (made_claims _ _ _ _ _ _ n (made_claims _ _ _ _ _ _ f (unmade_claims _ _ _ _ r'))))

pub returns-in_err-prove_other : goal.returns-in_err-prove_other
returns-in_err-prove_other c =
    let p = err_from_is_err_and c.from_residual-in_err-prove_other.result c.from_residual-in_err-prove_other.ensures.1 in
    let h : length c.args.state.now.opened < 2 = rw (← c.opened.ensures) (omega arith) in
    let n = few-opened c.args.state.now h in
    let f = rw c.facts.ensures at c.in_ok-fact.ensures in
    let k : c.fact.inside.kind ≡ c.in_ok-fact.fact.now.kind = ap (λ (g : PlainFact). g.kind) c.fact.view_is in
    let r = rw k at c.in_ok-region.ensures in
    let o' = rw c.opened-2.ensures at c.in_err-prove_other.ensures in
    rw (p.1, p.2) (made_claims _ _ _ _ _ _ c.in_ok-heap_address.ensures (made_claims _ _ _ _ _ _ n (made_claims _ _ _ _ _ _ f (made_claims _ _ _ _ _ _ r (claims_fail _ _ _ _ _ o')))))

pub returns-in_err-next : goal.returns-in_err-next
returns-in_err-next c =
    let p = err_from_is_err_and c.from_residual-in_err-next.result c.from_residual-in_err-next.ensures.1 in
    let h : length c.args.state.now.opened < 2 = rw (← c.opened.ensures) (omega arith) in
    let n = few-opened c.args.state.now h in
    let f = rw c.facts.ensures at c.in_ok-fact.ensures in
    let k : c.fact.inside.kind ≡ c.in_ok-fact.fact.now.kind = ap (λ (g : PlainFact). g.kind) c.fact.view_is in
    let r = rw k at c.in_ok-region.ensures in
    let o = rw c.opened-2.ensures at c.in_ok-prove_other.ensures in
    rw (p.1, p.2) (made_claims _ _ _ _ _ _ c.in_ok-heap_address.ensures (made_claims _ _ _ _ _ _ n (made_claims _ _ _ _ _ _ f (made_claims _ _ _ _ _ _ r (claims_then _ _ _ _ _ _ _ o (no_memory_claims _ _ _))))))

pub returns : goal.returns
returns c =
    let h : length c.args.state.now.opened < 2 = rw (← c.opened.ensures) (omega arith) in
    let n = few-opened c.args.state.now h in
    let f = rw c.facts.ensures at c.in_ok-fact.ensures in
    let k : c.fact.inside.kind ≡ c.in_ok-fact.fact.now.kind = ap (λ (g : PlainFact). g.kind) c.fact.view_is in
    let r = rw k at c.in_ok-region.ensures in
    let o = rw c.opened-2.ensures at c.in_ok-prove_other.ensures in
    let g = rw (c.in_ok-next.ensures, c.deref.ensures.value) at c.case_goals.ensures in
    made_claims _ _ _ _ _ _ c.in_ok-heap_address.ensures (made_claims _ _ _ _ _ _ n (made_claims _ _ _ _ _ _ f (made_claims _ _ _ _ _ _ r (claims_then _ _ _ _ _ _ _ o (weaker _ _ _ g)))))

pub returns-then-opened-ge-MOST_OPENED : goal.returns-then-opened-ge-MOST_OPENED
returns-then-opened-ge-MOST_OPENED c =
    let h : 2 ≤ length c.args.state.now.opened = rw (← c.opened.ensures) (omega arith) in
    made_claims _ _ _ _ _ _ c.in_ok-heap_address.ensures (unmade_claims _ _ _ _ (many-opened c.args.state.now h))

pub with_opened-requires-clause-guards : goal.with_opened-requires-clause-guards
with_opened-requires-clause-guards c = c.requires.guards

pub case_goals-requires-clause-sorts : goal.case_goals-requires-clause-sorts
case_goals-requires-clause-sorts c = rw c.in_ok-next.ensures c.requires.sorts

pub case_goals-requires-clause-envs : goal.case_goals-requires-clause-envs
case_goals-requires-clause-envs c = rw c.in_ok-next.ensures c.requires.envs

pub with_opened-requires-clause-exists : goal.with_opened-requires-clause-exists
with_opened-requires-clause-exists c = fact-exists c.args.state.now.facts c.args.number _ (rw c.facts.ensures at c.in_ok-fact.ensures)
