use Rattle.std.proofs.Common.{rules, ◌-ℤ◌, pos, neg_ℤ, ap, sym, ◌∙◌}
use Rattle.std.proofs.lemmas.Int.{to_z-of_z}
use mir.Val.{SFits, to_z, of_z}
use mir.Syntax.{w128}
use Rattle.cap_farkas.proofs.Sides.{zero-minus, negative-fits, above_side}
use Rattle.cap_farkas.proofs.system.side_coefficient.Goals as goal

pub overflow_sub-result : goal.overflow_sub-result
overflow_sub-result c =
    let f : SFits w128 c.coefficient-coefficient.result = search rules in
    let e = to_z-of_z _ _ f ∙ c.coefficient-coefficient.ensures.coefficient in
    let n = rw c.in-Above.is at c.requires in
    rw (zero-minus, e) (negative-fits c.args.variable c.args.row.now.sort c.args.row.now.term c.coefficient-coefficient.ensures.ascend n)

pub returns-in-Above : goal.returns-in-Above
returns-in-Above c =
    let f : SFits w128 c.coefficient-coefficient.result = search rules in
    let e = to_z-of_z _ _ f ∙ c.coefficient-coefficient.ensures.coefficient in
    let g : SFits w128 (pos 0 -ℤ to_z w128 (of_z w128 c.coefficient-coefficient.result)) =
    rw (zero-minus, e) (negative-fits c.args.variable c.args.row.now.sort c.args.row.now.term c.coefficient-coefficient.ensures.ascend (rw c.in-Above.is at c.requires)) in
    rw c.in-Above.is (to_z-of_z _ _ g ∙ zero-minus _ ∙ ap neg_ℤ e ∙ sym (above_side c.args.variable c.args.row.now.sort c.args.row.now.term))
