use Rattle.std.proofs.Common.{arith, ◌<ℤ◌, ◌≤ℤ◌, pos}
use Rattle.std.proofs.lemmas.Int.{ints}
use Rattle.std.proofs.lemmas.Result.{err_from_is_err_and}
use Rattle.cap_fm_elimination.proofs.LeavesSteps.{turned-yes, turned-no, turned-other, negative-fails, as_it_is}
use Rattle.cap_fm_elimination.proofs.leaf.turned.Goals as goal

pub returns-in_err-negative-in-Eq : goal.returns-in_err-negative-in-Eq
returns-in_err-negative-in-Eq c =
    let n : c.args.constant <ℤ pos 0 = omega (arith, ints) in
    let p = err_from_is_err_and c.from_residual.result c.from_residual.ensures.1 in
    rw (p.1, p.2) (negative-fails _ _ _ _ (turned-yes _ _ c.in-Eq.is n) c.in_err-negative-in-Eq.ensures)

pub returns-else-constant-lt0 : goal.returns-else-constant-lt0
returns-else-constant-lt0 c = let n : pos 0 ≤ℤ c.args.constant = omega (arith, ints) in as_it_is _ _ _ (turned-no _ _ c.in-Eq.is n)

pub returns-in_default : goal.returns-in_default
returns-in_default c = as_it_is _ _ _ (turned-other _ _ c.in_default.not-Eq)
