use Rattle.cap_top_commands.proofs.Accepting.{accepted_safe}
use Rattle.cap_top_commands.proofs.laws.accepted_are_safe.Goals as goal

pub returns : goal.returns
returns c =
    accepted_safe c.judged_are_valid.ensures c.derivations_are_sound.ensures
    (λ trees cs bytes e. ((c.readings_are_lines.ensures trees cs bytes).0 e).0)
    c.programs_of_texts_are_well_formed.ensures
