use Rattle.std.proofs.Common.{rules, ◌∙◌}
use Rattle.std.proofs.lemmas.Int.{to_z-of_z}
use mir.Val.{SFits}
use mir.Syntax.{w128}
use Rattle.cap_owners_values.proofs.Sums.{number_whole}
use Rattle.cap_owners_values.proofs.values.Values.number_in.Goals as goal

pub returns : goal.returns
returns c =
    let f : SFits w128 c.constant_part.result = search rules in
    number_whole _ c.args.self.now c.args.term.now _ _ (to_z-of_z _ _ f ∙ c.constant_part.ensures) c.parts.ensures.parts c.total.ensures
