use Rattle.std.proofs.Common.{rules, arith, ◌<◌, ◌≤◌, length, get_or, refl, ap}
use Rattle.std.proofs.lemmas.Int.{to_z-of_z}
use Rattle.std.proofs.lemmas.Result.{err_from_is_err_and}
use mir.Val.{SFits}
use mir.Syntax.{w128}
use Rattle.cap_owners_values.specs.Sums.{number_of_sort, numbers_by}
use Rattle.cap_owners_values.proofs.Sums.{no_part, total_goes, total_ends, total_stops_at_product, total_stops_at_sum}
use Rattle.cap_owners_values.proofs.values.Values.total.Goals as goal

pub returns-in_err-multiple : goal.returns-in_err-multiple
returns-in_err-multiple c =
    let h : c.loop-part.part-index < length c.args.parts.now = omega arith in
    let f : SFits w128 (get_or c.args.parts.now c.loop-part.part-index no_part).1 = search rules in
    let p = err_from_is_err_and c.from_residual.result c.from_residual.ensures.1 in
    rw (p.1, p.2) (total_stops_at_product _ (numbers_by c.args.sort c.args.self.now) _ _ _ _ _ _ h (to_z-of_z _ _ f) (ap (number_of_sort c.args.sort) c.at.ensures) c.in_err-multiple.ensures (rw (to_z-of_z _ _ c.ranges.sum) at c.loop-part.invariant))

pub returns-in_err-total : goal.returns-in_err-total
returns-in_err-total c =
    let h : c.loop-part.part-index < length c.args.parts.now = omega arith in
    let f : SFits w128 (get_or c.args.parts.now c.loop-part.part-index no_part).1 = search rules in
    let u : SFits w128 c.in_ok-multiple.multiple = search rules in
    let p = err_from_is_err_and c.from_residual-in_err-total.result c.from_residual-in_err-total.ensures.1 in
    rw (p.1, p.2) (total_stops_at_sum _ (numbers_by c.args.sort c.args.self.now) _ _ _ _ _ _ _ _ _ h (to_z-of_z _ _ f) (ap (number_of_sort c.args.sort) c.at.ensures) c.in_ok-multiple.ensures (to_z-of_z _ _ u) refl c.in_err-total.ensures (rw (to_z-of_z _ _ c.ranges.sum) at c.loop-part.invariant))

pub loop-part-preserved : goal.loop-part-preserved
loop-part-preserved c =
    let h : c.loop-part.part-index < length c.args.parts.now = omega arith in
    let f : SFits w128 (get_or c.args.parts.now c.loop-part.part-index no_part).1 = search rules in
    let u : SFits w128 c.in_ok-multiple.multiple = search rules in
    let v : SFits w128 c.in_ok-total.total = search rules in
    total_goes (numbers_by c.args.sort c.args.self.now) _ _ _ _ _ _ _ _ _ _ _ h (to_z-of_z _ _ f) (ap (number_of_sort c.args.sort) c.at.ensures) c.in_ok-multiple.ensures (to_z-of_z _ _ u) refl c.in_ok-total.ensures (to_z-of_z _ _ v) c.loop-part.invariant

pub returns : goal.returns
returns c =
    let h : length c.args.parts.now ≤ c.loop-part.part-index = omega arith in
    total_ends (numbers_by c.args.sort c.args.self.now) _ _ _ _ h (rw (to_z-of_z _ _ c.ranges.sum) at c.loop-part.invariant)
