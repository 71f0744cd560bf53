use Rattle.std.proofs.Common.{rules, ap}
use Rattle.std.proofs.lemmas.Int.{to_z-of_z}
use Rattle.std.proofs.lemmas.Result.{err_from_is_err_and}
use mir.Val.{SFits}
use mir.Syntax.{w128}
use Rattle.cap_fm_elimination.specs.Views.{origin_view}
use Rattle.cap_fm_elimination.proofs.LeavesSteps.{combination-fails, given-narrow}
use Rattle.cap_fm_elimination.proofs.leaf.own.Goals as goal

pub returns-in_err-combination-in-Combined : goal.returns-in_err-combination-in-Combined
returns-in_err-combination-in-Combined c =
    let f : SFits w128 c.in-Combined.a = search rules in
    let g : SFits w128 c.in-Combined.b = search rules in
    let p = err_from_is_err_and c.from_residual-in_err-combination-in-Combined.result c.from_residual-in_err-combination-in-Combined.ensures.1 in
    rw (p.1, p.2) (combination-fails _ _ _ _ _ _ _ _ _ _ _ (ap origin_view c.in-Combined.is) c.requires (to_z-of_z _ _ f) (to_z-of_z _ _ g) (rw c.term-left.ensures c.index-terms-first.is) (rw c.term-right.ensures c.index-terms-second.is) c.in_err-combination-in-Combined.ensures.exact)

pub returns-in_ok-var-in-Given : goal.returns-in_ok-var-in-Given
returns-in_ok-var-in-Given c = (given-narrow _ _ _ (ap origin_view c.in-Given.is), rw c.in-Given.is c.in_ok-var-in-Given.ensures)
