-- What stands at the roots of all units, of which each tree is to grow from one.
use Rattle.std.specs.Prelude.{ℕ, ℤ, List, length, map, slice_get, flat_map, Option, Some, None}
use Rattle.cap_lin.specs.Steps.{first_wide}
use Rattle.cap_prog.specs.Program.{PlainProgram, PlainRegionType}
use Rattle.cap_goal_spec.specs.States.{PlainGoal}
use Rattle.cap_goal_spec.specs.Choices.{PlainTree}
use Rattle.cap_goal_spec.specs.Roots.{PlainUnit, region_unit, function_unit, roots, roots_steps, units}
use Rattle.cap_rules.specs.Valid.{Derives}

-- a root without tasks has no tree; where a term of a unit's roots leaves 128 bits, no choice
-- applies at any of them
pub data PlainStart : Type 0 where
  no_tasks : PlainStart
  at_goal : PlainGoal → PlainStart
  barred : PlainStart

abbrev pub start_of : Option PlainGoal → PlainStart
start_of None = no_tasks
start_of (Some g) = at_goal g

abbrev pub starts_unless : Option (ℤ × ℤ) → List (Option PlainGoal) → List PlainStart
starts_unless None rs = map start_of rs
starts_unless (Some w) rs = map (λ r. barred) rs

abbrev pub unit_starts : PlainProgram → PlainUnit → List PlainStart
unit_starts p u = starts_unless (first_wide (roots_steps p u)) (roots p u)

abbrev pub starts : PlainProgram → List PlainStart
starts p = flat_map (unit_starts p) (units p)

-- a region type has a root for each case; the roots of a function make no results
abbrev pub cases_of : Option PlainRegionType → ℕ
cases_of None = 0
cases_of (Some k) = length k.cases

abbrev pub case_count : PlainProgram → PlainUnit → ℕ
case_count p (region_unit n) = cases_of (slice_get p.regions n)
case_count p (function_unit n) = 0

-- a tree of what stands at a root
abbrev pub StartDerives : PlainProgram → Option PlainTree → PlainStart → Type 0
StartDerives p o barred = ⊥
StartDerives p None no_tasks = Unit {0}
StartDerives p (Some t) no_tasks = ⊥
StartDerives p None (at_goal g) = ⊥
StartDerives p (Some t) (at_goal g) = Derives p 1 t g
