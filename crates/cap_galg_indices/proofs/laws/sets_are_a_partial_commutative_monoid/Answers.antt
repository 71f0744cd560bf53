use Rattle.cap_galg_indices.specs.Laws.Composition.{composed-ascends, composed-commutes}
use Rattle.cap_galg_indices.specs.Laws.Composition.{composed-associates, composed-unit}
use Rattle.cap_galg_indices.specs.Laws.Composition.{composed-cancels, composed-empty}
use Rattle.cap_galg_indices.proofs.laws.sets_are_a_partial_commutative_monoid.Goals as goal

pub returns : goal.returns
returns c = record {
  closed = composed-ascends;
  commutes = composed-commutes;
  associates = composed-associates;
  unit = composed-unit;
  cancels = composed-cancels;
  positive = composed-empty;
}
