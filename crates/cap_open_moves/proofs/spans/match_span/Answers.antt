use Rattle.std.proofs.Common.{◌≡◌, ap}
use Rattle.std.proofs.lemmas.Result.{err_from_is_err_and}
use Rattle.cap_goal_spec.specs.States.{PlainFact}
use Rattle.cap_rules_steps.proofs.Walking.{made_claims, unmade_claims}
use Rattle.cap_open_moves.proofs.spans.match_span.Goals as goal

pub returns-in_err-index-clause-claims : goal.returns-in_err-index-clause-claims
returns-in_err-index-clause-claims c =
    let p = err_from_is_err_and c.from_residual.result c.from_residual.ensures.1 in
    rw (p.1, p.2) (unmade_claims _ _ _ _ c.in_err-index.ensures)

pub returns-in_err-number-clause-claims : goal.returns-in_err-number-clause-claims
returns-in_err-number-clause-claims c =
    let p = err_from_is_err_and c.from_residual-in_err-number.result c.from_residual-in_err-number.ensures.1 in
    rw (p.1, p.2) (made_claims _ _ _ _ _ _ c.in_ok-index.ensures (unmade_claims _ _ _ _ c.in_err-number.ensures.makes))

pub returns-in_err-piece-clause-claims : goal.returns-in_err-piece-clause-claims
returns-in_err-piece-clause-claims c =
    let p = err_from_is_err_and c.from_residual-in_err-piece.result c.from_residual-in_err-piece.ensures.1 in
    let q = rw c.held_before.ensures at c.in_err-piece.ensures in
    rw (p.1, p.2) (made_claims _ _ _ _ _ _ c.in_ok-index.ensures (made_claims _ _ _ _ _ _ c.in_ok-number.ensures.makes (unmade_claims _ _ _ _ q)))

pub returns-in_err-needed-clause-claims : goal.returns-in_err-needed-clause-claims
returns-in_err-needed-clause-claims c =
    let p = err_from_is_err_and c.from_residual-in_err-needed.result c.from_residual-in_err-needed.ensures.1 in
    let r : c.fact.inside.region ≡ c.args.fact.now.region = ap (λ (f : PlainFact). f.region) c.fact.view_is in
    let k : c.fact.inside.kind ≡ c.args.fact.now.kind = ap (λ (f : PlainFact). f.kind) c.fact.view_is in
    let q = rw c.held_before.ensures at c.in_ok-piece.ensures in
    let m = rw (c.is_of_atom.ensures, r, k) at c.in_err-needed.ensures in
    rw (p.1, p.2) (made_claims _ _ _ _ _ _ c.in_ok-index.ensures (made_claims _ _ _ _ _ _ c.in_ok-number.ensures.makes (made_claims _ _ _ _ _ _ q (unmade_claims _ _ _ _ m))))

pub returns-clause-claims : goal.returns-clause-claims
returns-clause-claims c =
    let r : c.fact.inside.region ≡ c.args.fact.now.region = ap (λ (f : PlainFact). f.region) c.fact.view_is in
    let k : c.fact.inside.kind ≡ c.args.fact.now.kind = ap (λ (f : PlainFact). f.kind) c.fact.view_is in
    let q = rw c.held_before.ensures at c.in_ok-piece.ensures in
    let m = rw (c.is_of_atom.ensures, r, k) at c.in_ok-needed.ensures in
    made_claims _ _ _ _ _ _ c.in_ok-index.ensures (made_claims _ _ _ _ _ _ c.in_ok-number.ensures.makes (made_claims _ _ _ _ _ _ q (made_claims _ _ _ _ _ _ m c.prove_within.ensures)))
