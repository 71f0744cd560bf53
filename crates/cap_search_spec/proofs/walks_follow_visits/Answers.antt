use Rattle.cap_search_spec.proofs.Walking.{goal-walk}
use Rattle.cap_search_spec.proofs.walks_follow_visits.Goals as goal

pub returns : goal.returns
returns c = goal-walk
