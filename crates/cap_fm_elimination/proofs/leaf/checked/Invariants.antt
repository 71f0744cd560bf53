use Rattle.std.proofs.Common.{◌≡◌, ◌++◌, drop, pos}
use Rattle.cap_lin.specs.Linear.{number}
use Rattle.cap_lin.specs.Steps.{first_wide}
use Rattle.cap_fm_spec.specs.Leaf.{check_steps}
use Rattle.cap_fm_elimination.proofs.leaf.checked.Given as goal

abbrev pub invariant-loop-entry : goal.invariant-loop-entry
invariant-loop-entry l = first_wide (check_steps (l.rows ++ l.more) l.sum (drop l.entry-index l.parts)) ≡ first_wide (check_steps (l.rows ++ l.more) (number (pos 0)) l.parts)
