-- Goals, and points of bodies.
use Rattle.std.specs.Prelude.{ℕ, Bool, false, List, [], ◌∷◌, map, Option, Some, None}
use Rattle.std.specs.Borrow.{Bor}
use Rattle.cap_prog.specs.declared.function.Statement.{Statement}
use Rattle.cap_prog.specs.Program.{Block, done, first}
use Rattle.cap_prog.specs.Views.{statement_view}
use Rattle.cap_rules.specs.cap_goal_spec.States.{PlainState, PlainTask, PlainGoal, goal}
use Rattle.cap_goal.specs.Views.{is_done, goal_view, block_in}
use Rattle.std.specs.Global.{Vec}
use Rattle.cap_goal.specs.declared.goal.Goal.{Goal}
use Rattle.cap_goal.specs.declared.task.Point.{Point}

-- the goal of these tasks, whatever is first
abbrev pub goal_at : PlainState → List PlainTask → Option PlainGoal
goal_at s [] = None
goal_at s (t ∷ ts) = Some (goal s (t ∷ ts))

-- nothing is to be done at the first task
abbrev pub head_is_done : ℕ → List PlainTask → Bool
head_is_done facts [] = false
head_is_done facts (t ∷ ts) = is_done facts t

abbrev pub point_view : Point → Block
point_view p = block_in p.lists.items done

-- the statement that comes first, and what follows it
abbrev pub ahead : Option (Bor Statement × Point) → Block
ahead None = done
ahead (Some x) =
    first (statement_view x.0.now).label (statement_view x.0.now).act (point_view x.1)

abbrev pub goals_view : Vec Goal → List PlainGoal
goals_view gs = map goal_view gs.items
