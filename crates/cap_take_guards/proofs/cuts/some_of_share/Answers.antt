use Rattle.std.proofs.lemmas.Result.{err_from_is_err_and}
use Rattle.cap_rules_steps.proofs.Walking.{then_made, unmade, then_narrow, wide, done_as}
use Rattle.cap_take_guards.proofs.cuts.some_of_share.Goals as goal

pub returns-in_err-some : goal.returns-in_err-some
returns-in_err-some c =
    let p = err_from_is_err_and c.from_residual-in_err-some.result c.from_residual-in_err-some.ensures.1 in
    let m = rw c.in_ok-next.ensures at c.in_err-some.ensures.makes in
    rw (p.1, p.2) (unmade _ _ _ m)

pub returns-in_err-with_comparison : goal.returns-in_err-with_comparison
returns-in_err-with_comparison c =
    let p = err_from_is_err_and c.from_residual-in_err-with_comparison.result c.from_residual-in_err-with_comparison.ensures.1 in
    let k0 = rw c.in_ok-next.ensures at c.in_ok-some.ensures.makes in
    let f = rw c.in_ok-next.ensures at c.in_ok-some.ensures.fresh in
    let m = rw (f, c.constant-zero.ensures) at c.in_err-with_comparison.ensures in
    rw (p.1, p.2) (then_made _ _ _ _ k0 (unmade _ _ _ m))

pub returns-in_err-with_comparison-2 : goal.returns-in_err-with_comparison-2
returns-in_err-with_comparison-2 c =
    let p = err_from_is_err_and c.from_residual-in_err-with_comparison-2.result c.from_residual-in_err-with_comparison-2.ensures.1 in
    let k0 = rw c.in_ok-next.ensures at c.in_ok-some.ensures.makes in
    let f = rw c.in_ok-next.ensures at c.in_ok-some.ensures.fresh in
    let k1 = rw (f, c.constant-zero.ensures) at c.in_ok-with_comparison.ensures in
    let m = rw f at c.in_err-with_comparison-2.ensures in
    rw (p.1, p.2) (then_made _ _ _ _ k0 (then_made _ _ _ _ k1 (unmade _ _ _ m)))

pub returns-in_err-rest : goal.returns-in_err-rest
returns-in_err-rest c =
    let p = err_from_is_err_and c.from_residual-in_err-rest.result c.from_residual-in_err-rest.ensures.1 in
    let k0 = rw c.in_ok-next.ensures at c.in_ok-some.ensures.makes in
    let f = rw c.in_ok-next.ensures at c.in_ok-some.ensures.fresh in
    let k1 = rw (f, c.constant-zero.ensures) at c.in_ok-with_comparison.ensures in
    let k2 = rw f at c.in_ok-with_comparison-2.ensures in
    let m = rw f at c.in_err-rest.ensures in
    rw (p.1, p.2) (then_made _ _ _ _ k0 (then_made _ _ _ _ k1 (then_made _ _ _ _ k2 (wide _ _ _ m))))

pub returns : goal.returns
returns c =
    let k0 = rw c.in_ok-next.ensures at c.in_ok-some.ensures.makes in
    let f = rw c.in_ok-next.ensures at c.in_ok-some.ensures.fresh in
    let k1 = rw (f, c.constant-zero.ensures) at c.in_ok-with_comparison.ensures in
    let k2 = rw f at c.in_ok-with_comparison-2.ensures in
    let k3 = rw f at c.in_ok-rest.ensures in
    let e = rw (k3.1, f) at c.in_ok-naming.ensures in
    then_made _ _ _ _ k0 (then_made _ _ _ _ k1 (then_made _ _ _ _ k2 (then_narrow _ _ _ k3.0 (done_as _ _ e))))
