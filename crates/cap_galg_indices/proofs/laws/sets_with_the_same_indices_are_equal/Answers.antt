use Rattle.cap_galg_indices.specs.Laws.Members.{same-members}
use Rattle.cap_galg_indices.proofs.laws.sets_with_the_same_indices_are_equal.Goals as goal

pub returns : goal.returns
returns c = same-members 0
