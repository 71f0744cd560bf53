use Rattle.std.proofs.Common.{refl}
use Rattle.std.proofs.lemmas.Result.{err_from_is_err_and}
use Rattle.cap_rules_steps.proofs.Walking.{narrow_claims, wide_claims, claims_value, claims_no_value, weaker, done_as}
use Rattle.cap_take_guards.proofs.Behind.{at-whole, next-whole, no-next-whole}
use Rattle.cap_take_guards.proofs.spans.whole_index.Goals as goal

pub returns-in_err-index : goal.returns-in_err-index
returns-in_err-index c =
    let p = err_from_is_err_and c.from_residual.result c.from_residual.ensures.1 in
    let m = c.in_err-index.ensures in
    rw (p.1, p.2) (wide_claims _ _ _ _ m)

pub returns-in_err-prove_that : goal.returns-in_err-prove_that
returns-in_err-prove_that c =
    let p = err_from_is_err_and c.from_residual-in_err-prove_that.result c.from_residual-in_err-prove_that.ensures.1 in
    let k0 = c.in_ok-index.ensures in
    let m = rw (c.rows.ensures, c.in_ok-index.ensures.1) at c.in_err-prove_that.ensures in
    rw (p.1, p.2) (narrow_claims _ _ _ _ _ k0.0 (claims_no_value _ _ _ _ _ _ refl m))

pub returns-in_err-next : goal.returns-in_err-next
returns-in_err-next c =
    let p = err_from_is_err_and c.from_residual-in_err-next.result c.from_residual-in_err-next.ensures.1 in
    let s = c.args.state.now in let env = c.args.env.now in let a = c.args.start.now in let e = c.args.end.now in let i = c.in_ok-index.index in
    let k = rw c.rows.ensures at c.in_ok-prove_that.ensures in
    rw (p.1, p.2) (at-whole s env a e _ c.args.term.now i _ _ c.in_ok-index.ensures (claims_value _ _ _ _ _ _ _ k (no-next-whole s env a e _ i _ c.in_err-next.ensures)))

pub returns-in_err-prove_that-2 : goal.returns-in_err-prove_that-2
returns-in_err-prove_that-2 c =
    let p = err_from_is_err_and c.from_residual-in_err-prove_that-2.result c.from_residual-in_err-prove_that-2.ensures.1 in
    let s = c.args.state.now in let env = c.args.env.now in let a = c.args.start.now in let e = c.args.end.now in let i = c.in_ok-index.index in
    let k = rw c.rows.ensures at c.in_ok-prove_that.ensures in
    let m = rw c.rows-2.ensures at c.in_err-prove_that-2.ensures in
    rw (p.1, p.2) (at-whole s env a e _ c.args.term.now i _ _ c.in_ok-index.ensures (claims_value _ _ _ _ _ _ _ k (next-whole s env a e _ i c.in_ok-next.next _ _ c.in_ok-next.ensures (claims_no_value _ _ _ _ _ _ refl m))))

pub returns : goal.returns
returns c =
    let s = c.args.state.now in let env = c.args.env.now in let a = c.args.start.now in let e = c.args.end.now in let i = c.in_ok-index.index in
    let k = rw c.rows.ensures at c.in_ok-prove_that.ensures in
    let m = rw c.rows-2.ensures at c.in_ok-prove_that-2.ensures in
    at-whole s env a e _ c.args.term.now i _ _ c.in_ok-index.ensures
    (claims_value _ _ _ _ _ _ _ k (next-whole s env a e _ i c.in_ok-next.next _ _ c.in_ok-next.ensures (claims_value _ _ _ _ _ _ _ m (weaker _ _ _ (done_as _ _ c.in_ok-leaving.ensures)))))
