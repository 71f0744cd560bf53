use Rattle.cap_search_spec.proofs.Lawful.{stuck-is-furthest}
use Rattle.cap_search_spec.proofs.stuck_leaves_are_furthest.Goals as goal

pub returns : goal.returns
returns c = stuck-is-furthest
