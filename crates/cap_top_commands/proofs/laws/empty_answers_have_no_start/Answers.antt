use Rattle.cap_top_commands.proofs.Startless.{verified_startless, derived_startless}
use Rattle.cap_top_commands.proofs.laws.empty_answers_have_no_start.Goals as goal

pub returns-clause-verified : goal.returns-clause-verified
returns-clause-verified c =
    verified_startless c.empty_starts_are_none.ensures c.programs_of_texts_are_well_formed.ensures

pub returns-clause-derived : goal.returns-clause-derived
returns-clause-derived c =
    derived_startless c.empty_starts_are_none.ensures c.programs_of_texts_are_well_formed.ensures
