use Rattle.std.proofs.Common.{rules, ◌∙◌, ◌≤ℤ◌, ◌<ℤ◌, pos, arith, to_z, of_z}
use Rattle.std.proofs.lemmas.Int.{ints, to_z-of_z}
use Rattle.std.proofs.lemmas.Result.{err_from_is_err_and}
use mir.Val.{SFits}
use mir.Syntax.{w128}
use Rattle.cap_fm_elimination.specs.Views.{entry_of}
use Rattle.cap_fm_elimination.proofs.Replacements.{factor-fails, size-fails, factor-arises, size-arises}
use Rattle.cap_fm_elimination.proofs.equations.replace.Goals as goal

pub returns-in_err-factor : goal.returns-in_err-factor
returns-in_err-factor c = λ inputs present f n m.
    let t = c.if-coefficient-ge0.true in
    let z : pos 0 ≤ℤ c.args.coefficient = omega (arith, ints) in
    let p = err_from_is_err_and c.from_residual.result c.from_residual.ensures.1 in
    rw (p.1, p.2) (factor-fails _ _ _ _ _ _ _ z (rw (to_z-of_z _ _ c.ranges.own) at c.in_err-factor.ensures))

pub returns-in_err-size : goal.returns-in_err-size
returns-in_err-size c = λ inputs present f n m.
    let t = c.if-coefficient-ge0.false in
    let z : c.args.coefficient <ℤ pos 0 = omega (arith, ints) in
    let p = err_from_is_err_and c.from_residual-in_err-size.result c.from_residual-in_err-size.ensures.1 in
    rw (p.1, p.2) (size-fails _ _ _ _ _ _ _ z (rw (to_z-of_z _ _ c.ranges.coefficient) at c.in_err-size.ensures))

pub returns-in_ok-factor : goal.returns-in_ok-factor
returns-in_ok-factor c = λ inputs present f n m.
    let s = c.args.stage.now in
    let v : SFits w128 c.in_ok-factor.factor = search rules in
    let o = to_z-of_z _ _ c.ranges.own in
    let t = c.if-coefficient-ge0.true in
    let z : pos 0 ≤ℤ c.args.coefficient = omega (arith, ints) in
    let d = (rw (to_z-of_z _ _ c.ranges.coefficient) at c.combine.ensures) inputs present f n m in
    factor-arises inputs s c.combine.new.stage present c.args.coefficient (to_z w128 (of_z w128 c.in_ok-factor.factor)) c.args.own (entry_of s c.args.equation) (entry_of s c.args.row) c.combine.result z (to_z-of_z _ _ v ∙ (rw o at c.in_ok-factor.ensures.1)) (rw o at c.in_ok-factor.ensures.0) d

pub returns-in_ok-size : goal.returns-in_ok-size
returns-in_ok-size c = λ inputs present f n m.
    let s = c.args.stage.now in
    let v : SFits w128 c.in_ok-size.size = search rules in
    let o = to_z-of_z _ _ c.ranges.coefficient in
    let t = c.if-coefficient-ge0.false in
    let z : c.args.coefficient <ℤ pos 0 = omega (arith, ints) in
    let d = (rw (to_z-of_z _ _ c.ranges.own) at c.combine-else-coefficient-ge0.ensures) inputs present f n m in
    size-arises inputs s c.combine-else-coefficient-ge0.new.stage present c.args.coefficient (to_z w128 (of_z w128 c.in_ok-size.size)) c.args.own (entry_of s c.args.equation) (entry_of s c.args.row) c.combine-else-coefficient-ge0.result z (to_z-of_z _ _ v ∙ (rw o at c.in_ok-size.ensures.1)) (rw o at c.in_ok-size.ensures.0) d
