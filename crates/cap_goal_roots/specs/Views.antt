-- What contracts see of roots and of the loops of a function.
use Rattle.std.specs.Prelude.{ℕ, if◌then◌else◌, List, [], ◌∷◌, map, option_map, Option}
use Rattle.cap_prog.specs.Program.{done}
use Rattle.cap_prog.specs.Views.{assertion_view}
use Rattle.cap_goal_spec.specs.States.{PlainTask, PlainGoal}
use Rattle.cap_goal_spec.specs.Roots as plain
use Rattle.cap_goal.specs.declared.goal.Goal.{Goal}
use Rattle.cap_goal.specs.Views.{block_in, goal_view, is_done}
use Rattle.cap_goal_roots.specs.declared.store.Knows as code
use Rattle.cap_goal_roots.specs.declared.loops.LoopPoint as point

abbrev pub root_view : Option Goal → Option PlainGoal
root_view g = option_map goal_view g

abbrev pub roots_view : List (Option Goal) → List (Option PlainGoal)
roots_view gs = map root_view gs

abbrev pub knows_view : code.Knows → plain.Knows
knows_view w = record { locals = w.locals; result = w.result }

abbrev pub loop_view : point.LoopPoint → plain.LoopPoint
loop_view w = record {
  invariant = assertion_view w.invariant.now;
  block = block_in w.point.lists.items done;
}

abbrev pub loops_view : List point.LoopPoint → List plain.LoopPoint
loops_view ws = map loop_view ws

-- without the first tasks that have nothing to do, where there are so many facts
abbrev pub without_done : ℕ → List PlainTask → List PlainTask
without_done facts [] = []
without_done facts (t ∷ ts) = if is_done facts t then without_done facts ts else t ∷ ts
