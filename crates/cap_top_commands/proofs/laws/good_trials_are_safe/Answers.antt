use Rattle.cap_top_commands.proofs.Good.{good_trial}
use Rattle.cap_top_commands.proofs.laws.good_trials_are_safe.Goals as goal

pub returns : goal.returns
returns c =
    good_trial c.found_trees_are_valid.ensures c.derivations_are_sound.ensures c.programs_of_texts_are_well_formed.ensures
