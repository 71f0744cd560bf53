use Rattle.std.proofs.Common.{rules, ◌∙◌}
use Rattle.std.proofs.lemmas.Int.{to_z-of_z}
use mir.Val.{SFits}
use mir.Syntax.{w128}
use Rattle.cap_farkas.proofs.Sides.{constant-narrow, constant-side, some_by, value_by}
use Rattle.cap_farkas.proofs.system.side_part.Goals as goal

pub unwrap-requires : goal.unwrap-requires
unwrap-requires c = some_by _ _ _ c.side_constant.ensures (constant-narrow _ _ _ c.requires)

pub returns-in-Constant : goal.returns-in-Constant
returns-in-Constant c =
    let f : SFits w128 c.unwrap.result = search rules in
    rw c.in-Constant.is (to_z-of_z _ _ f ∙ value_by _ _ _ _ c.unwrap.ensures c.side_constant.ensures ∙ constant-side c.args.side c.args.row.now.sort c.args.row.now.term)
