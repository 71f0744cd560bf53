-- A conditional that is given: a subgoal for each side.
use Rattle.std.specs.Prelude.{ℕ, List, ◌∷◌, ◌++◌, Option, Some, None}
use Rattle.cap_lin.specs.Linear.{Linear}
use Rattle.cap_prog.specs.declared.assertion.Comp.{Comp}
use Rattle.cap_prog.specs.Program.{PlainItem, choose, Items, none, append_items}
use Rattle.cap_prog.specs.Views.{items_view}
use Rattle.cap_goal_spec.specs.States.{PlainState, PlainTask, to_give, PlainGoal, goals_of}
use Rattle.cap_goal.specs.Views.{items_in, tasks_view}
use Rattle.cap_rules.specs.Attempts.{Attempt, unit, ◌>>=◌}
use Rattle.cap_rules.specs.Making.{with_comparison, opposite}
use Rattle.cap_rules.specs.Giving.{Given, given, give_sides}
use Rattle.cap_take_give.specs.declared.splitting.Behind as code
use Rattle.cap_take_give.specs.declared.splitting.Conditional.{Conditional}
use Rattle.cap_take_give.specs.declared.splitting.Sides.{Sides}

-- the comparison of a conditional, and its sides
abbrev pub conditional_view : Conditional → Comp × Items × Items
conditional_view x = (x.comparison.now, items_view x.then_items.now, items_view x.else_items.now)

abbrev pub conditional_seen : Option Conditional → Option (Comp × Items × Items)
conditional_seen None = None
conditional_seen (Some x) = Some (conditional_view x)

abbrev pub conditional_of : PlainItem → Option (Comp × Items × Items)
conditional_of (choose c a b) = Some (c, a, b)
conditional_of i = None

-- what is left behind an item that is given
pub record Behind : Type 0 where
  pub items : Items
  pub env : ℕ
  pub statement : ℕ
  pub tasks : List PlainTask

abbrev pub behind_view : code.Behind → Behind
behind_view b = record {
  items = items_in b.items.lists.items none;
  env = b.env;
  statement = b.at;
  tasks = tasks_view b.tasks.now;
}

abbrev pub sides_view : Sides → Given (Linear × Linear)
sides_view s = given s.state (s.left, s.right)

-- these items are given first
abbrev pub tasks_ahead : Items → Behind → List PlainTask
tasks_ahead is b = to_give is b.env b.statement ∷ b.tasks

-- the items of one side are given first, and behind them those that are left
abbrev pub side_tasks : Items → Behind → List PlainTask
side_tasks is b = tasks_ahead (append_items is b.items) b

-- a subgoal in which the comparison holds between these terms, and one in which its opposite does
abbrev pub sides_split :
    Given (Linear × Linear) → Comp → Items → Items → Behind → Attempt (List PlainGoal)
sides_split g c a b left = do
  s' ← with_comparison g.state g.value.0 c.op g.value.1 c.sort
  s'' ← with_comparison g.state g.value.0 (opposite c.op) g.value.1 c.sort
  unit (goals_of s' (side_tasks a left) ++ goals_of s'' (side_tasks b left))

abbrev pub split_given : PlainState → Comp → Items → Items → Behind → Attempt (List PlainGoal)
split_given s c a b left = do
  g ← give_sides s left.env c
  sides_split g c a b left
