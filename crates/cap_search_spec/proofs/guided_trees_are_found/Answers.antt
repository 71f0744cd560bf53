use Rattle.cap_search_spec.proofs.Lawful.{guided-are-found}
use Rattle.cap_search_spec.proofs.guided_trees_are_found.Goals as goal

pub returns : goal.returns
returns c = guided-are-found
