-- Goals from which a search goes on, with no error but want of memory.
use Rattle.std.specs.Prelude.{List, Option, Some, None}
use Rattle.std.specs.List.{AllByRecursion}
use Rattle.cap_prog.specs.Program.{PlainProgram}
use Rattle.cap_goal_spec.specs.States.{PlainGoal}
use Rattle.cap_goal_spec.specs.Choices.{PlainChoice}
use Rattle.cap_rules_ascending.specs.Ascending.{GoalAscends}
use Rattle.cap_rules_fits.specs.Kept.{IsKept}
use Rattle.cap_search_spec.specs.Guided.{IsOffered}

-- it is kept, so that its state has room, and its terms are in order, so that offered choices apply
pub record IsSearchable (p : PlainProgram) (g : PlainGoal) : Type 0 where
  pub kept : IsKept p g
  pub ascends : GoalAscends g

abbrev pub AreSearchable : PlainProgram → List PlainGoal → Type 0
AreSearchable p gs = AllByRecursion (IsSearchable p) gs

-- a root without tasks is no goal
abbrev pub RootIsSearchable : PlainProgram → Option PlainGoal → Type 0
RootIsSearchable p None = Unit {0}
RootIsSearchable p (Some g) = IsSearchable p g

abbrev pub RootsAreSearchable : PlainProgram → List (Option PlainGoal) → Type 0
RootsAreSearchable p rs = AllByRecursion (RootIsSearchable p) rs

-- ---- choices at a goal

abbrev pub AreOffered : PlainProgram → PlainGoal → List PlainChoice → Type 0
AreOffered p g cs = AllByRecursion (IsOffered p g) cs
