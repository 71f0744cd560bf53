use Rattle.cap_galg_indices.specs.Laws.Composition.{within-completes, completed-within}
use Rattle.cap_galg_indices.proofs.laws.sets_within_others_are_completed.Goals as goal

pub returns : goal.returns
returns c = λ xs ys p q. (within-completes xs ys p q, completed-within xs ys)
