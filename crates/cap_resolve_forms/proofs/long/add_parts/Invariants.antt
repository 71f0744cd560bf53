use Rattle.std.proofs.Common.{◌≡◌, ◌++◌, ◌+◌, length}
use Rattle.cap_lin.specs.Linear.{merged, sums}
use Rattle.cap_lin.specs.Steps.{first_wide, sums_steps}
use Rattle.cap_resolve_forms.proofs.long.add_parts.Given as goal

abbrev pub invariant-loop-pair : goal.invariant-loop-pair
invariant-loop-pair l = record {
  steps : first_wide (sums_steps (merged l.left l.right)) ≡ first_wide (sums_steps (merged l.fn.left l.fn.right));
  parts : l.parts.items ++ sums (merged l.left l.right) ≡ sums (merged l.fn.left l.fn.right);
}

abbrev pub decreases-loop-pair : goal.decreases-loop-pair
decreases-loop-pair l = length l.left + length l.right
