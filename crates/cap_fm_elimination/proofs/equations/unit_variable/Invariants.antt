use Rattle.std.proofs.Common.{◌≡◌, drop}
use Rattle.cap_fm_spec.specs.Elimination.{unit_variable}
use Rattle.cap_fm_elimination.proofs.equations.unit_variable.Given as goal

abbrev pub invariant-loop-part : goal.invariant-loop-part
invariant-loop-part l = unit_variable (drop l.part-index l.parts) ≡ unit_variable l.parts
