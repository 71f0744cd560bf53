-- What contracts see of starts and walks.
use Rattle.std.specs.Prelude.{List, map, option_map, Option, Some, None, Result, Ok, Err}
use Rattle.std.specs.List.{AllByRecursion}
use Rattle.cap_prog.specs.Program.{PlainProgram}
use Rattle.cap_goal_spec.specs.States.{PlainGoal}
use Rattle.cap_rules_fits.specs.Kept.{IsKept}
use Rattle.cap_goal_spec.specs.Choices.{PlainTree}
use Rattle.cap_goal.specs.declared.choice.Node.{Node}
use Rattle.cap_goal.specs.Trees.{node_view}
use Rattle.cap_goal.specs.Views.{goal_view}
use Rattle.cap_kernel_check_steps.specs.declared.error.CheckError.{CheckError}
use Rattle.cap_kernel_check_steps.specs.declared.error.CheckError.TheVariants.{Node as NodeFails, Shape, OutOfMemory}
use Rattle.cap_kernel_check_steps.specs.declared.walk.Walk.{Walk}
use Rattle.cap_kernel_check_steps.specs.declared.start.Start.{Start}
use Rattle.cap_kernel_check_steps.specs.declared.start.Start.TheVariants as start
use Rattle.cap_kernel_check_steps.specs.Starts.{PlainStart, no_tasks, at_goal, barred}
use Rattle.cap_kernel_check_steps.specs.Walks.{PlainWalk, Outcome, goes_on, at_node, at_shape}

abbrev pub start_view : Start → PlainStart
start_view start.NoTasks = no_tasks
start_view (start.At g) = at_goal (goal_view g)
start_view start.Barred = barred

abbrev pub starts_view : List Start → List PlainStart
starts_view ss = map start_view ss

abbrev pub walk_view : Walk → PlainWalk
walk_view w = record { before = w.before; lacks = w.lacks }

-- the walk goes on, or it ends; want of memory may come in either case
abbrev pub Walked : Walk → Result (Unit {0}) CheckError → (Outcome → Type 0) → Type 0
Walked new (Ok x) P = P (goes_on (walk_view new))
Walked new (Err (NodeFails k)) P = P (at_node k)
Walked new (Err (Shape k)) P = P (at_shape k)
Walked new (Err OutOfMemory) P = Unit {0}

-- what a choice leaves is kept
abbrev pub AreKept : PlainProgram → Option (List PlainGoal) → Type 0
AreKept p None = Unit {0}
AreKept p (Some gs) = AllByRecursion (IsKept p) gs

-- a root without tasks is no goal, and at a barred one no choice is made
abbrev pub StartIsKept : PlainProgram → PlainStart → Type 0
StartIsKept p no_tasks = Unit {0}
StartIsKept p (at_goal g) = IsKept p g
StartIsKept p barred = Unit {0}

abbrev pub tree_view : Option Node → Option PlainTree
tree_view t = option_map node_view t
