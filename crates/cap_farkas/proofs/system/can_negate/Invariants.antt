use Rattle.std.proofs.Common.{◌≡◌, drop, negsuc}
use Rattle.cap_lin.specs.Steps.{first_wide, multiples_steps}
use Rattle.cap_farkas.proofs.system.can_negate.Given as goal

abbrev pub invariant-loop-part : goal.invariant-loop-part
invariant-loop-part l = first_wide (multiples_steps (negsuc 0) (drop l.part-index l.parts)) ≡ first_wide (multiples_steps (negsuc 0) l.parts)
