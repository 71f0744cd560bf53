use Rattle.cap_galg_indices.specs.Laws.Composition.{full-only, full-alone, below-full}
use Rattle.cap_galg_indices.proofs.laws.all_indices_are_the_full_set.Goals as goal

pub returns : goal.returns
returns c = record {
  only = full-only;
  alone = full-alone;
  above = below-full;
}
