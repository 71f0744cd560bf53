use Rattle.cap_galg_indices.specs.Laws.Composition.{ranges-compose, range-and-rest-compose}
use Rattle.cap_galg_indices.proofs.laws.ranges_that_touch_compose.Goals as goal

pub returns : goal.returns
returns c = record {
  range = ranges-compose;
  rest = range-and-rest-compose;
}
