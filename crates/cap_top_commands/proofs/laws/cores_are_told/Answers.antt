use Rattle.cap_top_commands.proofs.Coring.{cores-told}
use Rattle.cap_top_commands.proofs.laws.cores_are_told.Goals as goal

pub returns : goal.returns
returns c =
    cores-told c.good_answers_are_safe.ensures c.programs_of_texts_are_well_formed.ensures c.proved_have_cores.ensures
