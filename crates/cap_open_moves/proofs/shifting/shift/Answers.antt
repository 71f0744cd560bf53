use Rattle.std.proofs.Common.{◌≡◌, ap}
use Rattle.std.proofs.lemmas.Result.{err_from_is_err_and}
use Rattle.cap_goal_spec.specs.States.{PlainFact}
use Rattle.cap_rules_steps.proofs.Walking.{made_claims, unmade_claims}
use Rattle.cap_open_moves.proofs.shifting.shift.Goals as goal

pub returns-in_err-fact : goal.returns-in_err-fact
returns-in_err-fact c =
    let p = err_from_is_err_and c.from_residual.result c.from_residual.ensures.1 in
    let h = rw c.opened.ensures at c.in_err-fact.ensures in
    rw (p.1, p.2) (unmade_claims _ _ _ _ h)

pub returns-in_err-region : goal.returns-in_err-region
returns-in_err-region c =
    let p = err_from_is_err_and c.from_residual-in_err-region.result c.from_residual-in_err-region.ensures.1 in
    let k : c.fact.inside.kind ≡ c.in_ok-fact.fact.now.kind = ap (λ (g : PlainFact). g.kind) c.fact.view_is in
    let f = rw c.opened.ensures at c.in_ok-fact.ensures in
    let r = rw k at c.in_err-region.ensures in
    rw (p.1, p.2) (made_claims _ _ _ _ _ _ f (unmade_claims _ _ _ _ r))

pub returns-in_err-chosen : goal.returns-in_err-chosen
returns-in_err-chosen c =
    let p = err_from_is_err_and c.from_residual-in_err-chosen.result c.from_residual-in_err-chosen.ensures.1 in
    let k : c.fact.inside.kind ≡ c.in_ok-fact.fact.now.kind = ap (λ (g : PlainFact). g.kind) c.fact.view_is in
    let f = rw c.opened.ensures at c.in_ok-fact.ensures in
    let r = rw k at c.in_ok-region.ensures in
    rw (p.1, p.2) (made_claims _ _ _ _ _ _ f (made_claims _ _ _ _ _ _ r (unmade_claims _ _ _ _ c.in_err-chosen.ensures)))

pub returns : goal.returns
returns c =
    let k : c.fact.inside.kind ≡ c.in_ok-fact.fact.now.kind = ap (λ (g : PlainFact). g.kind) c.fact.view_is in
    let f = rw c.opened.ensures at c.in_ok-fact.ensures in
    let r = rw k at c.in_ok-region.ensures in
    made_claims _ _ _ _ _ _ f (made_claims _ _ _ _ _ _ r (made_claims _ _ _ _ _ _ c.in_ok-chosen.ensures c.shifted.ensures))
