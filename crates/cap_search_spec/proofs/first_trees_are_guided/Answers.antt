use Rattle.cap_search_spec.proofs.Lawful.{first-are-guided}
use Rattle.cap_search_spec.proofs.first_trees_are_guided.Goals as goal

pub returns : goal.returns
returns c = first-are-guided
