use Rattle.cap_galg_indices.specs.Laws.Tests.{disjoint-has, disjoint-from, within-has, within-from}
use Rattle.cap_galg_indices.specs.Laws.Tests.{empty-has, empty-from, full-has, full-from}
use Rattle.cap_galg_indices.proofs.laws.tests_speak_of_all_indices.Goals as goal

pub returns : goal.returns
returns c = record {
  empty = λ xs p. (empty-has xs, empty-from xs p);
  full = λ xs p. (full-has xs, full-from xs p);
  disjoint = λ xs ys. (disjoint-has xs ys, disjoint-from xs ys);
  within = λ xs ys. (within-has xs ys, within-from xs ys);
}
