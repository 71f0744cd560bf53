use Rattle.cap_search_spec.proofs.Lawful.{guided-are-derivations}
use Rattle.cap_search_spec.proofs.guided_trees_are_derivations.Goals as goal

pub returns : goal.returns
returns c = guided-are-derivations
