use Rattle.std.proofs.Common.{◌≡◌, ap}
use Rattle.std.proofs.lemmas.Result.{err_from_is_err_and}
use Rattle.cap_goal_spec.specs.States.{PlainFact}
use Rattle.cap_rules_steps.proofs.Walking.{made_claims, unmade_claims}
use Rattle.cap_open_moves.proofs.matching.match_guard.Goals as goal

pub returns-in_err-piece : goal.returns-in_err-piece
returns-in_err-piece c =
    let r : c.fact.inside.region ≡ c.args.fact.now.region = ap (λ (f : PlainFact). f.region) c.fact.view_is in
    let k : c.fact.inside.kind ≡ c.args.fact.now.kind = ap (λ (f : PlainFact). f.kind) c.fact.view_is in
    let p = err_from_is_err_and c.from_residual.result c.from_residual.ensures.1 in
    let h = rw (c.held_before.ensures, r, k) at c.in_err-piece.ensures in
    rw (p.1, p.2) (unmade_claims _ _ _ _ h)

pub returns : goal.returns
returns c =
    let r : c.fact.inside.region ≡ c.args.fact.now.region = ap (λ (f : PlainFact). f.region) c.fact.view_is in
    let k : c.fact.inside.kind ≡ c.args.fact.now.kind = ap (λ (f : PlainFact). f.kind) c.fact.view_is in
    let h = rw (c.held_before.ensures, r, k) at c.in_ok-piece.ensures in
    made_claims _ _ _ _ _ _ h c.match_form.ensures
