-- Goals that fit a program and whose subgoals do, too.
use Rattle.std.specs.Prelude.{List, [], ◌∷◌, Option, Some, None}
use Rattle.std.specs.List.{AllByRecursion}
use Rattle.cap_prog.specs.Program.{PlainProgram}
use Rattle.cap_prog.specs.WellFormed.{IsWellFormed}
use Rattle.cap_goal_spec.specs.States.{PlainTask, to_run, to_turn, to_give, to_take, to_make, to_close, to_shift, to_rest, PlainGoal}
use Rattle.cap_goal_spec.specs.Choices.{PlainChoice}
use Rattle.cap_goal_spec.specs.Roots.{PlainUnit, roots}
use Rattle.cap_goal_spec.specs.Fits.{GoalFits}
use Rattle.cap_rules.specs.Answers.{Subgoals}

-- a task other than to check a move
abbrev pub ChecksNoMove : PlainTask → Type 0
ChecksNoMove (to_run home b) = Unit {0}
ChecksNoMove (to_turn home b) = Unit {0}
ChecksNoMove (to_give items e n) = Unit {0}
ChecksNoMove (to_take items e left n) = Unit {0}
ChecksNoMove (to_make k c e t n) = Unit {0}
ChecksNoMove (to_close any n) = Unit {0}
ChecksNoMove (to_shift o c m e n) = ⊥
ChecksNoMove (to_rest j n) = Unit {0}

-- a move is checked once what it gives up is given up and made, before all else; there is at most
-- one such check
abbrev pub ChecksFirst : List PlainTask → Type 0
ChecksFirst [] = Unit {0}
ChecksFirst (to_take items e left n ∷ ts) = ChecksFirst ts
ChecksFirst (to_make k c e t n ∷ ts) = ChecksFirst ts
ChecksFirst (t ∷ ts) = AllByRecursion ChecksNoMove ts

pub record IsKept (p : PlainProgram) (g : PlainGoal) : Type 0 where
  pub fits : GoalFits p g
  pub checks : ChecksFirst g.tasks

-- ---- laws

-- a root without tasks is no goal
abbrev pub RootIsKept : PlainProgram → Option PlainGoal → Type 0
RootIsKept p None = Unit {0}
RootIsKept p (Some g) = IsKept p g

abbrev pub RootsAreKept : Type 0
RootsAreKept =
    (p : PlainProgram) → IsWellFormed p → (u : PlainUnit) →
    AllByRecursion (RootIsKept p) (roots p u)

abbrev pub SubgoalsAreKept : Type 0
SubgoalsAreKept =
    (p : PlainProgram) (g : PlainGoal) (c : PlainChoice) (gs : List PlainGoal) →
    IsWellFormed p → IsKept p g → Subgoals p g c gs → AllByRecursion (IsKept p) gs
