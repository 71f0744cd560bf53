use Rattle.std.proofs.Common.{rules, arith, ◌<◌, ◌≤◌, length, get_or, refl, ◌∙◌}
use Rattle.std.proofs.lemmas.Int.{to_z-of_z}
use Rattle.std.proofs.lemmas.Result.{err_from_is_err_and}
use mir.Val.{SFits}
use mir.Syntax.{w128}
use Rattle.cap_lin.proofs.Merge.{no_part}
use Rattle.cap_lin.proofs.Multiples.{stops, goes_on, adds, narrow, done}
use Rattle.cap_resolve_forms.proofs.long.scale_parts.Goals as goal

pub returns-in_err-multiple : goal.returns-in_err-multiple
returns-in_err-multiple c =
    let h : c.loop-part.part-index < length c.args.parts.now = omega arith in
    let f : SFits w128 (get_or c.args.parts.now c.loop-part.part-index no_part).1 = search rules in
    let e = to_z-of_z _ _ c.ranges.k in
    let p = err_from_is_err_and c.from_residual-in_err-multiple.result c.from_residual-in_err-multiple.ensures.1 in
    rw (p.1, p.2) (stops _ _ _ _ _ _ _ h e (to_z-of_z _ _ f) c.in_err-multiple.ensures (rw e at c.loop-part.invariant.steps))

pub loop-part-preserved : goal.loop-part-preserved
loop-part-preserved c =
    let h : c.loop-part.part-index < length c.args.parts.now = omega arith in
    let f : SFits w128 (get_or c.args.parts.now c.loop-part.part-index no_part).1 = search rules in
    let d = to_z-of_z _ _ f in
    let u : SFits w128 c.in_ok-multiple.multiple = search rules in
    let r = to_z-of_z _ _ u in
    record {
      steps = goes_on _ _ _ _ _ _ h refl d c.in_ok-multiple.ensures.0 c.loop-part.invariant.steps;
      parts = adds _ _ _ _ _ _ _ _ _ h refl d (r ∙ c.in_ok-multiple.ensures.1) c.in_ok-put.ensures c.loop-part.invariant.parts;
    }

pub returns : goal.returns
returns c =
    let h : length c.args.parts.now ≤ c.loop-part.part-index = omega arith in
    let e = to_z-of_z _ _ c.ranges.k in
    (narrow _ _ _ _ h (rw e at c.loop-part.invariant.steps), done _ _ _ _ _ h (rw e at c.loop-part.invariant.parts))
