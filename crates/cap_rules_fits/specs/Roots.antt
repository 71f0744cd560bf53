-- Roots that fit their program.
use Rattle.std.specs.Prelude.{Option, Some, None}
use Rattle.std.specs.List.{AllByRecursion}
use Rattle.cap_prog.specs.Program.{PlainProgram}
use Rattle.cap_prog.specs.WellFormed.{IsWellFormed}
use Rattle.cap_goal_spec.specs.States.{PlainGoal}
use Rattle.cap_goal_spec.specs.Roots.{PlainUnit, roots}
use Rattle.cap_goal_spec.specs.Fits.{GoalFits}

-- a root without tasks is no goal
abbrev pub RootFits : PlainProgram → Option PlainGoal → Type 0
RootFits p None = Unit {0}
RootFits p (Some g) = GoalFits p g

abbrev pub RootsFit : Type 0
RootsFit =
    (p : PlainProgram) → IsWellFormed p → (u : PlainUnit) → AllByRecursion (RootFits p) (roots p u)
