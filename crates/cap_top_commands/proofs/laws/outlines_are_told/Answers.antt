use Rattle.cap_top_commands.proofs.Outlines.{outlines_told}
use Rattle.cap_top_commands.proofs.laws.outlines_are_told.Goals as goal

pub returns : goal.returns
returns c =
    outlines_told c.derivations_are_sound.ensures c.derivations_outline.ensures
    (λ trees cs bytes e. ((c.readings_are_lines.ensures trees cs bytes).0 e).0)
    c.programs_of_texts_are_well_formed.ensures
