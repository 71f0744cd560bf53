use Rattle.std.proofs.Common.{◌≡◌, ◌++◌, ◌+◌, length}
use Rattle.cap_lin.specs.Linear.{merged, combined_parts}
use Rattle.cap_lin.specs.Steps.{first_wide, combined_parts_steps}
use Rattle.cap_lin.proofs.term.append_combination.Given as goal

abbrev pub invariant-loop-x : goal.invariant-loop-x
invariant-loop-x g l = record {
  steps : first_wide (combined_parts_steps l.a l.b (merged l.left l.right)) ≡ first_wide (combined_parts_steps l.a l.b (merged l.fn.left l.fn.right));
  parts : g.P.PartList.items l.parts ++ combined_parts l.a l.b (merged l.left l.right) ≡ g.P.PartList.items l.fn.parts ++ combined_parts l.a l.b (merged l.fn.left l.fn.right);
}

abbrev pub decreases-loop-x : goal.decreases-loop-x
decreases-loop-x g l = length l.left + length l.right
