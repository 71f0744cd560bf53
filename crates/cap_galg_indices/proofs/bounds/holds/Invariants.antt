use Rattle.std.proofs.Common.{◌≡◌, drop}
use Rattle.cap_galg_indices.specs.Sets.{exactly_one, has}
use Rattle.cap_galg_indices.proofs.bounds.holds.Given as goal

abbrev pub invariant-loop-bound : goal.invariant-loop-bound
invariant-loop-bound l =
    exactly_one l.inside (has (drop l.bound-index l.bounds) l.index) ≡ has l.bounds l.index
