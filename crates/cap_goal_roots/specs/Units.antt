-- What is asked of units.
use Rattle.std.specs.Prelude.{ℕ, ◌+◌, ◌<◌, ◌≤◌, length}
use Rattle.cap_prog.specs.Program.{PlainCase, PlainRegionType, PlainFunction, PlainProgram}
use Rattle.cap_prog.specs.Scopes.{fixed_start}
use Rattle.cap_prog.specs.WellFormed.{most_variables, most_members}
use Rattle.cap_goal_spec.specs.Roots.{PlainUnit, region_unit, function_unit, LoopPoint}

abbrev pub HasUnit : PlainProgram → PlainUnit → Type 0
HasUnit p (region_unit n) = n < length p.regions
HasUnit p (function_unit n) = n < length p.functions

-- the variables of the function and these of an assertion are few
abbrev pub IsNarrow : PlainFunction → ℕ → Type 0
IsNarrow f new = fixed_start f + length f.fixed + new ≤ most_variables

abbrev pub LoopIsNarrow : PlainFunction → LoopPoint → Type 0
LoopIsNarrow f w = IsNarrow f (length w.invariant.names)

-- the variables of the region type and the case are few, and so are the comparisons
abbrev pub CaseIsNarrow : PlainRegionType → PlainCase → Type 0
CaseIsNarrow k c = (k.params + length c.names ≤ most_variables) × (length c.when ≤ most_members)
