use Rattle.cap_owners_runs_laws.proofs.texts_are_owned.Goals as goal

pub returns : goal.returns
returns c = c.owned_runs_are_shown.ensures c.runs_are_owned.ensures c.starts_are_told.ensures
