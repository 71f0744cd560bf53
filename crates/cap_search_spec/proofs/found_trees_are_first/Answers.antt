use Rattle.cap_search_spec.proofs.Lawful.{found-are-first}
use Rattle.cap_search_spec.proofs.found_trees_are_first.Goals as goal

pub returns : goal.returns
returns c = found-are-first
