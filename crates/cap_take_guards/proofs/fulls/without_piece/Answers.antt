use Rattle.std.proofs.Common.{Some, sym, ap, ◌∙◌}
use Rattle.std.specs.Prelude.{find}
use Rattle.std.proofs.lemmas.Result.{err_from_is_err_and}
use Rattle.cap_goal_spec.specs.States.{PlainState}
use Rattle.cap_rules.specs.Attempts.{found}
use Rattle.cap_rules.specs.Taking.{may_be_full, prove_full}
use Rattle.cap_rules_steps.proofs.Walking.{made_claims, unmade_claims, claims_then, claims_fail, weaker, done_as, there, lacking}
use Rattle.cap_take_holdings.proofs.Places.{found-none, found-some, without-placed}
use Rattle.cap_take_guards.proofs.fulls.without_piece.Goals as goal

pub returns-in-None-clause-claims : goal.returns-in-None-clause-claims
returns-in-None-clause-claims c =
    let e = rw c.guards.ensures at c.in-None.ensures in
    unmade_claims _ _ _ _ (lacking _ (found-none (may_be_full c.args.full.now) c.args.state.now.guards (sym e)))

pub returns-in_err-prove_full-in-Some-clause-claims : goal.returns-in_err-prove_full-in-Some-clause-claims
returns-in_err-prove_full-in-Some-clause-claims c =
    let p = err_from_is_err_and c.from_residual.result c.from_residual.ensures.1 in
    let a = c.args in
    let q = c.index-guards-place.result in
    let e = rw c.guards.ensures at c.in-Some.ensures in
    let i = rw c.guards-in-Some.ensures at c.index-guards-place.is in
    let f = found-some (may_be_full a.full.now) a.state.now.guards c.in-Some.place q (sym e) i in
    let m = rw (c.rows.ensures, ← c.index-guards-place.is) at c.in_err-prove_full-in-Some.ensures in
    rw (p.1, p.2) (made_claims _ (found (find (may_be_full a.full.now) a.state.now.guards)) _ q _ _ (there _ _ f) (claims_fail _ (prove_full a.state.now.rows q.form) _ _ _ m))

pub returns-in_ok-remove_piece-in-Some-clause-claims : goal.returns-in_ok-remove_piece-in-Some-clause-claims
returns-in_ok-remove_piece-in-Some-clause-claims c =
    let a = c.args in
    let q = c.index-guards-place.result in
    let e = rw c.guards.ensures at c.in-Some.ensures in
    let i = rw c.guards-in-Some.ensures at c.index-guards-place.is in
    let f = found-some (may_be_full a.full.now) a.state.now.guards c.in-Some.place q (sym e) i in
    let m = rw (c.rows.ensures, ← c.index-guards-place.is) at c.in_ok-prove_full-in-Some.ensures in
    let g = ap (λ (t : PlainState). t.guards) c.in_ok-remove_piece-in-Some.ensures ∙ without-placed (may_be_full a.full.now) a.state.now.guards (Some c.in-Some.place) e in
    made_claims _ (found (find (may_be_full a.full.now) a.state.now.guards)) _ q _ _ (there _ _ f) (claims_then _ (prove_full a.state.now.rows q.form) _ tt _ _ _ m (weaker _ _ _ (done_as _ _ g)))
