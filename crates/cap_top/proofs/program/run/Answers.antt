use Rattle.cap_top.proofs.Promises.{good_run, found_run, tried_run, tries_run, empty_run, derive_empty_run, derived_run, accepted_run, shown_run, replayed_run, strays_run, cored_run, outlined_run, outlines_run, owned_run, owns_run, spares_run, ends_run, answers_run, proved_run, accepts_run, shows_run, refuses_run, usage_run, command_run, read_run, write_run, memory_run}
use Rattle.cap_top.proofs.program.run.Goals as goal

pub returns-clause-good : goal.returns-clause-good
returns-clause-good g c = good_run _ _ _ _ _ _ c.perform.ensures.whole c.good_answers_are_safe.ensures

pub returns-clause-found : goal.returns-clause-found
returns-clause-found g c = found_run _ _ _ _ _ _ c.perform.ensures.whole c.good_answers_are_safe.ensures

pub returns-clause-tried : goal.returns-clause-tried
returns-clause-tried g c = tried_run _ _ _ _ _ _ c.perform.ensures.whole c.good_trials_are_safe.ensures

pub returns-clause-tries : goal.returns-clause-tries
returns-clause-tries g c = tries_run _ _ _ _ _ _ c.perform.ensures.whole

pub returns-clause-empty : goal.returns-clause-empty
returns-clause-empty g c = empty_run _ _ _ _ _ _ c.perform.ensures.whole c.empty_answers_have_no_start.ensures.verified

pub returns-clause-derive_empty : goal.returns-clause-derive_empty
returns-clause-derive_empty g c = derive_empty_run _ _ _ _ _ _ c.perform.ensures.whole c.empty_answers_have_no_start.ensures.derived

pub returns-clause-derived : goal.returns-clause-derived
returns-clause-derived g c = derived_run _ _ _ _ _ _ c.perform.ensures.whole c.derived_are_accepted.ensures

pub returns-clause-accepted : goal.returns-clause-accepted
returns-clause-accepted g c = accepted_run _ _ _ _ _ _ c.perform.ensures.whole c.accepted_are_safe.ensures

pub returns-clause-shown : goal.returns-clause-shown
returns-clause-shown g c = shown_run _ _ _ _ _ _ c.perform.ensures.whole

pub returns-clause-replayed : goal.returns-clause-replayed
returns-clause-replayed g c = replayed_run _ _ _ _ _ _ c.perform.ensures.whole

pub returns-clause-ends : goal.returns-clause-ends
returns-clause-ends g c = ends_run _ _ _ _ _ _ c.perform.ensures.whole

pub returns-clause-answers : goal.returns-clause-answers
returns-clause-answers g c = answers_run _ _ _ _ _ _ c.perform.ensures.whole

pub returns-clause-proved : goal.returns-clause-proved
returns-clause-proved g c = proved_run _ _ _ _ _ _ c.perform.ensures.whole

pub returns-clause-accepts : goal.returns-clause-accepts
returns-clause-accepts g c = accepts_run _ _ _ _ _ _ c.perform.ensures.whole

pub returns-clause-shows : goal.returns-clause-shows
returns-clause-shows g c = shows_run _ _ _ _ _ _ c.perform.ensures.whole

pub returns-clause-refuses : goal.returns-clause-refuses
returns-clause-refuses g c = refuses_run _ _ _ _ _ _ c.perform.ensures.whole

pub returns-clause-usage : goal.returns-clause-usage
returns-clause-usage g c = usage_run _ _ _ _ _ _ c.perform.ensures.whole

pub returns-clause-command : goal.returns-clause-command
returns-clause-command g c = command_run _ _ _ _ _ _ c.perform.ensures.whole

pub returns-clause-read_fault : goal.returns-clause-read_fault
returns-clause-read_fault g c = read_run _ _ _ _ _ _ c.perform.ensures.whole

pub returns-clause-write_fault : goal.returns-clause-write_fault
returns-clause-write_fault g c = write_run _ _ _ _ _ _ c.perform.ensures.whole

pub returns-clause-no_memory : goal.returns-clause-no_memory
returns-clause-no_memory g c = memory_run _ _ _ _ _ _ c.perform.ensures.whole

pub returns-clause-strays : goal.returns-clause-strays
returns-clause-strays g c =
    strays_run _ _ _ _ _ _ c.perform.ensures.whole c.strays_fault.ensures c.safe_texts_have_no_stray.ensures

pub returns-clause-cored : goal.returns-clause-cored
returns-clause-cored g c = cored_run _ _ _ _ _ _ c.perform.ensures.whole c.cores_are_told.ensures

pub returns-clause-spares : goal.returns-clause-spares
returns-clause-spares g c = spares_run _ _ _ _ _ _ c.perform.ensures.whole c.safe_programs_have_none.ensures

pub returns-clause-outlined : goal.returns-clause-outlined
returns-clause-outlined g c = outlined_run _ _ _ _ _ _ c.perform.ensures.whole c.outlines_are_told.ensures

pub returns-clause-outlines : goal.returns-clause-outlines
returns-clause-outlines g c = outlines_run _ _ _ _ _ _ c.perform.ensures.whole c.checked_are_outlined.ensures

pub returns-clause-owned : goal.returns-clause-owned
returns-clause-owned g c = owned_run _ _ _ _ _ _ c.perform.ensures.whole c.owners_are_told.ensures

pub returns-clause-owns : goal.returns-clause-owns
returns-clause-owns g c =
    owns_run _ _ _ _ _ _ c.perform.ensures.whole c.accepted_have_trees.ensures c.refused_starts_are_none.ensures
