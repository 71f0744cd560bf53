-- What is said of goals whose terms ascend.
use Rattle.std.specs.Prelude.{Bool, List, Option, Some, None}
use Rattle.std.specs.List.{AllByRecursion}
use Rattle.cap_fm_spec.specs.Solving.{RowsAscend}
use Rattle.cap_prog.specs.Program.{PlainProgram}
use Rattle.cap_rules.specs.cap_goal_spec.States.{PlainGoal}
use Rattle.cap_rules.specs.cap_goal_spec.Choices.{PlainChoice}
use Rattle.cap_rules.specs.cap_goal_spec.Roots.{all_roots}
use Rattle.cap_rules.specs.Answers.{owed_lists, Subgoals}
use Rattle.cap_rules.specs.Rules.{rule}
use Rattle.cap_rules_ascending.specs.Ascending.{GoalAscends, ProgramAscends}

-- in all lists of rows that a choice owes at such a goal the terms ascend
abbrev pub OwedAscend : Type 0
OwedAscend =
    (p : PlainProgram) (g : PlainGoal) (c : PlainChoice) (marks : List Bool) →
    GoalAscends g → AllByRecursion RowsAscend (owed_lists (rule p g c marks).events)

-- its subgoals are such goals
abbrev pub SubgoalsAscend : Type 0
SubgoalsAscend =
    (p : PlainProgram) (g : PlainGoal) (c : PlainChoice) (gs : List PlainGoal) →
    GoalAscends g → Subgoals p g c gs → AllByRecursion GoalAscends gs

abbrev pub RootAscends : Option PlainGoal → Type 0
RootAscends None = Unit {0}
RootAscends (Some g) = GoalAscends g

-- roots of a program whose terms ascend are such goals
abbrev pub RootsAscend : Type 0
RootsAscend =
    (p : PlainProgram) → ProgramAscends p → AllByRecursion RootAscends (all_roots p)
