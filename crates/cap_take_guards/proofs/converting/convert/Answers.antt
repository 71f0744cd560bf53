use Rattle.std.proofs.Common.{ap, subst, ◌∙◌}
use Rattle.std.specs.Prelude.{Ok, Err}
use Rattle.std.proofs.lemmas.Result.{err_from_is_err_and}
use Rattle.cap_prog.specs.Views.{program_view}
use Rattle.cap_goal_spec.specs.States.{PlainState}
use Rattle.cap_rules.specs.Making.{with_pieces}
use Rattle.cap_rules.specs.Taking.{Side, other_side, side_pieces}
use Rattle.cap_rules_steps.specs.Walks.{Makes}
use Rattle.cap_rules_steps.proofs.Walking.{made_claims, unmade_claims, claims_then, claims_fail, weaker, done_as}
use Rattle.cap_take_guards.specs.Sums.{sides_view}
use Rattle.cap_take_guards.proofs.converting.convert.Goals as goal

pub returns-in_err-guards : goal.returns-in_err-guards
returns-in_err-guards c =
    let p = err_from_is_err_and c.from_residual.result c.from_residual.ensures.1 in
    rw (p.1, p.2) (unmade_claims _ _ _ _ c.in_err-guards.ensures)

pub returns-in_err-named : goal.returns-in_err-named
returns-in_err-named c =
    let p = err_from_is_err_and c.from_residual-in_err-named.result c.from_residual-in_err-named.ensures.1 in
    let t = rw c.in_ok-names.ensures at c.in_err-named.ensures in
    rw (p.1, p.2) (made_claims _ _ _ _ _ _ c.in_ok-guards.ensures (made_claims _ _ _ _ _ _ c.in_ok-sides.ensures (made_claims _ _ _ _ _ _ c.in_ok-held.ensures (unmade_claims _ _ _ _ t))))

pub returns-in_err-without_full : goal.returns-in_err-without_full
returns-in_err-without_full c =
    let p = err_from_is_err_and c.from_residual-in_err-without_full.result c.from_residual-in_err-without_full.ensures.1 in
    let t = rw c.in_ok-names.ensures at c.in_ok-named.ensures in
    let w = rw (c.in_ok-next.ensures, c.deref.ensures.value, c.in_ok-fulls.ensures) at c.in_err-without_full.ensures.claims in
    rw (p.1, p.2) (made_claims _ _ _ _ _ _ c.in_ok-guards.ensures (made_claims _ _ _ _ _ _ c.in_ok-sides.ensures (made_claims _ _ _ _ _ _ c.in_ok-held.ensures (made_claims _ _ _ _ _ _ t (claims_fail _ _ _ _ _ w)))))

pub returns-in_err-with_pieces : goal.returns-in_err-with_pieces
returns-in_err-with_pieces c =
    let p = err_from_is_err_and c.from_residual-in_err-with_pieces.result c.from_residual-in_err-with_pieces.ensures.1 in
    let t = rw c.in_ok-names.ensures at c.in_ok-named.ensures in
    let a = c.args in
    let r = c.in_ok-named.named.now in
    let w = rw (c.in_ok-next.ensures, c.deref.ensures.value, c.in_ok-fulls.ensures) at c.in_ok-without_full.ensures.claims in
    let kept = rw c.in_ok-next.ensures at c.in_ok-without_full.ensures.kept in
    let o = c.in_ok-others.ensures ∙ ap (λ (x : Side). side_pieces x r a.kind) c.other_side.ensures in
    let ps = side_pieces (other_side (sides_view c.in_ok-sides.sides) a.side) r a.kind in
    let h = rw (c.deref-2.ensures.value, o) at c.in_err-with_pieces.ensures in
    let k = subst (λ (u : PlainState). Makes (Err c.in_err-with_pieces.field-0.0) (with_pieces (program_view a.program.now) u ps)) kept h in
    rw (p.1, p.2) (made_claims _ _ _ _ _ _ c.in_ok-guards.ensures (made_claims _ _ _ _ _ _ c.in_ok-sides.ensures (made_claims _ _ _ _ _ _ c.in_ok-held.ensures (made_claims _ _ _ _ _ _ t (claims_then _ _ _ _ _ _ _ w (unmade_claims _ _ _ _ k))))))

pub returns : goal.returns
returns c =
    let t = rw c.in_ok-names.ensures at c.in_ok-named.ensures in
    let a = c.args in
    let r = c.in_ok-named.named.now in
    let w = rw (c.in_ok-next.ensures, c.deref.ensures.value, c.in_ok-fulls.ensures) at c.in_ok-without_full.ensures.claims in
    let kept = rw c.in_ok-next.ensures at c.in_ok-without_full.ensures.kept in
    let o = c.in_ok-others.ensures ∙ ap (λ (x : Side). side_pieces x r a.kind) c.other_side.ensures in
    let ps = side_pieces (other_side (sides_view c.in_ok-sides.sides) a.side) r a.kind in
    let h = rw (c.deref-2.ensures.value, o) at c.in_ok-with_pieces.ensures in
    let k = subst (λ (u : PlainState). Makes (Ok c.with_pieces.new.state) (with_pieces (program_view a.program.now) u ps)) kept h in
    made_claims _ _ _ _ _ _ c.in_ok-guards.ensures (made_claims _ _ _ _ _ _ c.in_ok-sides.ensures (made_claims _ _ _ _ _ _ c.in_ok-held.ensures (made_claims _ _ _ _ _ _ t (claims_then _ _ _ _ _ _ _ w (made_claims _ _ _ _ _ _ k (weaker _ _ _ (done_as _ _ c.in_ok-stays.ensures)))))))
