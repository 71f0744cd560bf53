use Rattle.std.proofs.Common.{refl}
use Rattle.cap_galg_indices.specs.Laws.Members.{all-ascends, one-ascends, from-ascends, range-ascends}
use Rattle.cap_galg_indices.specs.Laws.Members.{all-has, one-has, from-has, range-has}
use Rattle.cap_galg_indices.proofs.laws.named_sets_have_their_indices.Goals as goal

pub returns : goal.returns
returns c = record {
  sets = λ i j. (all-ascends, one-ascends i, from-ascends i, range-ascends i j);
  empty = λ n. refl;
  all = all-has;
  one = one-has;
  from = from-has;
  range = range-has;
}
