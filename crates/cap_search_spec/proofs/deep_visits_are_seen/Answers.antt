use Rattle.cap_search_spec.proofs.Lawful.{deep-is-seen}
use Rattle.cap_search_spec.proofs.deep_visits_are_seen.Goals as goal

pub returns : goal.returns
returns c = deep-is-seen
