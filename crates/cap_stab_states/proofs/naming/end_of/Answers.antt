use Rattle.std.proofs.Common.{◌<◌, length, pos, ap, ◌∙◌, arith}
use Rattle.std.proofs.lemmas.Bool.Decides.{nat_tests}
use Rattle.cap_rules.specs.Resting.{end_of}
use Rattle.cap_stab_states.proofs.Asked.{end_at}
use Rattle.cap_stab_states.proofs.naming.end_of.Goals as goal

pub returns-else-is_empty : goal.returns-else-is_empty
returns-else-is_empty c =
    let ps = c.parts-parts.result.now in
    let h : 0 < length ps = grind (arith, nat_tests) in
    end_at ps (0, pos 0) h ∙ ap end_of c.parts-parts.ensures.parts
