use Rattle.std.proofs.Common.{refl}
use Rattle.std.proofs.lemmas.Result.{err_from_is_err_and}
use Rattle.cap_rules_steps.proofs.Walking.{then_made, unmade, done_as}
use Rattle.cap_pure.proofs.allocation.allocate.Goals as goal

pub returns-in_err-base : goal.returns-in_err-base
returns-in_err-base c =
    let p = err_from_is_err_and c.from_residual-in_err-base.result c.from_residual-in_err-base.ensures.1 in
    let h = rw c.in_ok-next.ensures at c.in_err-base.ensures.makes in
    rw (p.1, p.2) (unmade _ _ _ h)

pub returns-in_err-with_comparison : goal.returns-in_err-with_comparison
returns-in_err-with_comparison c =
    let p = err_from_is_err_and c.from_residual-in_err-with_comparison.result c.from_residual-in_err-with_comparison.ensures.1 in
    let h = rw c.in_ok-next.ensures at c.in_ok-base.ensures.makes in
    let f = rw c.in_ok-next.ensures at c.in_ok-base.ensures.fresh in
    let k = rw (f, c.constant-one.ensures) at c.in_err-with_comparison.ensures in
    rw (p.1, p.2) (then_made _ _ _ _ h (unmade _ _ _ k))

pub returns-in_err-with_new_cells : goal.returns-in_err-with_new_cells
returns-in_err-with_new_cells c =
    let p = err_from_is_err_and c.from_residual-in_err-with_new_cells.result c.from_residual-in_err-with_new_cells.ensures.1 in
    let h = rw c.in_ok-next.ensures at c.in_ok-base.ensures.makes in
    let f = rw c.in_ok-next.ensures at c.in_ok-base.ensures.fresh in
    let k = rw (f, c.constant-one.ensures) at c.in_ok-with_comparison.ensures in
    let m = rw f at c.in_err-with_new_cells.ensures in
    rw (p.1, p.2) (then_made _ _ _ _ h (then_made _ _ _ _ k (unmade _ _ _ m)))

pub returns-in_err-with_local : goal.returns-in_err-with_local
returns-in_err-with_local c =
    let p = err_from_is_err_and c.from_residual-in_err-with_local.result c.from_residual-in_err-with_local.ensures.1 in
    rw (p.1, p.2) (record { ends = λ ls. tt })

pub returns : goal.returns
returns c =
    let h = rw c.in_ok-next.ensures at c.in_ok-base.ensures.makes in
    let f = rw c.in_ok-next.ensures at c.in_ok-base.ensures.fresh in
    let k = rw (f, c.constant-one.ensures) at c.in_ok-with_comparison.ensures in
    let m = rw f at c.in_ok-with_new_cells.ensures in
    then_made _ _ _ _ h (then_made _ _ _ _ k (then_made _ _ _ _ m (done_as _ _ (rw (c.in_ok-leaves.ensures, c.in_ok-with_local.ensures, f) refl))))
