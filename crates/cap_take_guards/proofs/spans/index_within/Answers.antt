use Rattle.std.proofs.Common.{refl, ◌∙◌, [], ◌∷◌, Some}
use Rattle.std.proofs.lemmas.Result.{err_from_is_err_and}
use Rattle.cap_gsolve.specs.declared.piece.Form.TheVariants as form
use Rattle.cap_rules.specs.Taking.{cut}
use Rattle.cap_rules_steps.proofs.Walking.{narrow_claims, wide_claims, claims_value, claims_no_value, weaker, done_as}
use Rattle.cap_take_guards.proofs.Indices.{as-within}
use Rattle.cap_take_guards.proofs.Behind.{at-within, next-within, no-next-within, end-within, no-end-within, room-within, no-room-within}
use Rattle.cap_take_guards.proofs.spans.index_within.Goals as goal

pub returns-in_err-index : goal.returns-in_err-index
returns-in_err-index c =
    let p = err_from_is_err_and c.from_residual.result c.from_residual.ensures.1 in
    let m = c.in_err-index.ensures in
    rw (p.1, p.2) (as-within _ c.args.state.now c.args.env.now c.args.start.now c.args.end.now c.args.term.now _ _ (wide_claims _ _ _ _ m))

pub returns-in_err-prove_that : goal.returns-in_err-prove_that
returns-in_err-prove_that c =
    let p = err_from_is_err_and c.from_residual-in_err-prove_that.result c.from_residual-in_err-prove_that.ensures.1 in
    let k0 = c.in_ok-index.ensures in
    let m = rw (c.rows.ensures, c.in_ok-index.ensures.1) at c.in_err-prove_that.ensures in
    rw (p.1, p.2) (as-within _ c.args.state.now c.args.env.now c.args.start.now c.args.end.now c.args.term.now _ _ (narrow_claims _ _ _ _ _ k0.0 (claims_no_value _ _ _ _ _ _ refl m)))

pub returns-in_err-next : goal.returns-in_err-next
returns-in_err-next c =
    let p = err_from_is_err_and c.from_residual-in_err-next.result c.from_residual-in_err-next.ensures.1 in
    let s = c.args.state.now in let env = c.args.env.now in let a = c.args.start.now in let e = c.args.end.now in let i = c.in_ok-index.index in
    let k = rw c.rows.ensures at c.in_ok-prove_that.ensures in
    rw (p.1, p.2) (at-within s env a e _ c.args.term.now i _ _ c.in_ok-index.ensures (claims_value _ _ _ _ _ _ _ k (no-next-within s env a e i _ _ c.in_err-next.ensures)))

pub returns-in_err-prove_end : goal.returns-in_err-prove_end
returns-in_err-prove_end c =
    let p = err_from_is_err_and c.from_residual-in_err-prove_end.result c.from_residual-in_err-prove_end.ensures.1 in
    let s = c.args.state.now in let env = c.args.env.now in let a = c.args.start.now in let e = c.args.end.now in let i = c.in_ok-index.index in
    let k = rw c.rows.ensures at c.in_ok-prove_that.ensures in
    let m = rw c.rows-2.ensures at c.in_err-prove_end.ensures in
    rw (p.1, p.2) (at-within s env a e _ c.args.term.now i _ _ c.in_ok-index.ensures (claims_value _ _ _ _ _ _ _ k (next-within s env a e i _ c.in_ok-next.next _ _ c.in_ok-next.ensures (no-end-within s env a e i _ c.in_ok-next.next _ _ m))))

pub returns-in_err-has_room : goal.returns-in_err-has_room
returns-in_err-has_room c =
    let p = err_from_is_err_and c.from_residual-in_err-has_room.result c.from_residual-in_err-has_room.ensures.1 in
    let s = c.args.state.now in let env = c.args.env.now in let a = c.args.start.now in let e = c.args.end.now in let i = c.in_ok-index.index in
    let k = rw c.rows.ensures at c.in_ok-prove_that.ensures in
    let m = rw c.rows-2.ensures at c.in_ok-prove_end.ensures in
    rw (p.1, p.2) (at-within s env a e _ c.args.term.now i _ _ c.in_ok-index.ensures (claims_value _ _ _ _ _ _ _ k (next-within s env a e i _ c.in_ok-next.next _ _ c.in_ok-next.ensures (end-within s env a e i _ c.in_ok-next.next _ _ _ m (no-room-within s env a e i _ c.in_ok-next.next _ c.in_err-has_room.ensures)))))

pub returns : goal.returns
returns c =
    let s = c.args.state.now in let env = c.args.env.now in let a = c.args.start.now in let e = c.args.end.now in let i = c.in_ok-index.index in
    let k = rw c.rows.ensures at c.in_ok-prove_that.ensures in
    let m = rw c.rows-2.ensures at c.in_ok-prove_end.ensures in
    at-within s env a e _ c.args.term.now i _ _ c.in_ok-index.ensures
    (claims_value _ _ _ _ _ _ _ k
    (next-within s env a e i _ c.in_ok-next.next _ _ c.in_ok-next.ensures
    (end-within s env a e i _ c.in_ok-next.next _ _ _ m
    (room-within s env a e i _ c.in_ok-next.next _ _ c.in_ok-has_room.ensures (weaker _ _ _ (done_as _ (cut env s (form.Span a (Some i) ∷ (form.Span c.in_ok-next.next e ∷ []))) (c.in_ok-leaving.ensures ∙ rw (c.in_ok-first.ensures, c.in_ok-last.ensures) refl)))))))
