use Rattle.cap_galg_indices.specs.Laws.Composition.{composed-parts, parts-composed}
use Rattle.cap_galg_indices.proofs.laws.sets_compose_to_their_union.Goals as goal

pub returns : goal.returns
returns c = λ xs ys zs p q r. (composed-parts xs ys zs, parts-composed xs ys zs p q r)
