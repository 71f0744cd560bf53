use Rattle.cap_search_spec.proofs.Lawful.{first-are-unique}
use Rattle.cap_search_spec.proofs.first_trees_are_unique.Goals as goal

pub returns : goal.returns
returns c = first-are-unique
