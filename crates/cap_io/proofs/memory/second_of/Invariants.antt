-- The number has the same second number in the rest as in the whole.
use Rattle.std.proofs.Common.{◌≡◌, ◌==◌, length}
use Rattle.std.specs.Map.{lookup}
use Rattle.cap_io.proofs.memory.second_of.Given as goal

abbrev pub invariant-loop-pair : goal.invariant-loop-pair
invariant-loop-pair l = lookup (λ k. k == l.number) l.rest ≡ lookup (λ k. k == l.fn.number) l.fn.pairs

abbrev pub decreases-loop-pair : goal.decreases-loop-pair
decreases-loop-pair l = length l.rest
