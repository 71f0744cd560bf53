use Rattle.std.proofs.Common.{◌≡◌, ◌++◌, drop}
use Rattle.cap_lin.specs.Linear.{multiples}
use Rattle.cap_lin.specs.Steps.{first_wide, multiples_steps}
use Rattle.cap_resolve_forms.proofs.long.scale_parts.Given as goal

abbrev pub invariant-loop-part : goal.invariant-loop-part
invariant-loop-part l = record {
  steps : first_wide (multiples_steps l.k (drop l.part-index l.parts)) ≡ first_wide (multiples_steps l.k l.parts);
  parts : l.scaled.items ++ multiples l.k (drop l.part-index l.parts) ≡ multiples l.k l.parts;
}
