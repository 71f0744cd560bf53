-- What a choice at a statement, at a loop's head or at contradictory rows makes of a goal, by its
-- head.
use Rattle.std.specs.Prelude.{List, [], ◌∷◌, Option, Some, None}
use Rattle.cap_prog.specs.Program.{Label, PlainAct, Block, done, first, PlainProgram}
use Rattle.cap_prog.specs.Views.{statement_view}
use Rattle.cap_goal.specs.Views.{home_view, tasks_view}
use Rattle.cap_goal_spec.specs.States.{PlainState, Home, PlainTask, to_run, to_turn, PlainGoal}
use Rattle.cap_goal_spec.specs.Choices.{PlainChoice, by_absurd, by_clash, by_set, by_alloc, by_assert, by_if, by_loop, by_turn, by_call, by_fork, by_return}
use Rattle.cap_rules.specs.Attempts.{Attempt, not_applicable}
use Rattle.cap_rules.specs.Rules.{at_statement, at_turn, at_tasks}
use Rattle.cap_rules_steps.specs.Goals.{point_view}
use Rattle.cap_pure.specs.declared.upcoming.Upcoming as code

-- a rule at a statement that neither opens a region nor acts on a cell
abbrev pub IsAtStatement : PlainChoice → Type 0
IsAtStatement (by_clash i j cs) = Unit {0}
IsAtStatement by_set = Unit {0}
IsAtStatement by_alloc = Unit {0}
IsAtStatement (by_assert cs) = Unit {0}
IsAtStatement by_if = Unit {0}
IsAtStatement by_loop = Unit {0}
IsAtStatement by_call = Unit {0}
IsAtStatement by_fork = Unit {0}
IsAtStatement by_return = Unit {0}
IsAtStatement c = ⊥

-- such a rule, the rule at a loop's head, or that of contradictory rows
abbrev pub IsPure : PlainChoice → Type 0
IsPure (by_absurd c) = Unit {0}
IsPure by_turn = Unit {0}
IsPure c = IsAtStatement c

-- the statement that comes first in a tree of this home, the statements behind it, and the tasks
-- behind those
pub record Upcoming : Type 0 where
  pub home : Home
  pub label : Label
  pub act : PlainAct
  pub rest : Block
  pub tasks : List PlainTask

abbrev pub upcoming_view : code.Upcoming → Upcoming
upcoming_view u = record {
  home = home_view u.home;
  label = (statement_view u.statement.now).label;
  act = (statement_view u.statement.now).act;
  rest = point_view u.rest;
  tasks = tasks_view u.tasks.now;
}

abbrev pub upcoming_seen : Option code.Upcoming → Option Upcoming
upcoming_seen None = None
upcoming_seen (Some u) = Some (upcoming_view u)

abbrev pub upcoming_in : Home → Block → List PlainTask → Option Upcoming
upcoming_in h done ts = None
upcoming_in h (first l a rest) ts =
    Some (record { home = h; label = l; act = a; rest = rest; tasks = ts })

-- where statements are run first
abbrev pub running : PlainTask → List PlainTask → Option Upcoming
running (to_run h b) ts = upcoming_in h b ts
running t ts = None

-- where a loop comes first, its invariant given
abbrev pub turning : PlainTask → List PlainTask → Option Upcoming
turning (to_turn h b) ts = upcoming_in h b ts
turning t ts = None

-- the statements that come first, with their first one
abbrev pub all_ahead : Upcoming → Block
all_ahead u = first u.label u.act u.rest

-- the statements behind the first one are run
abbrev pub tasks_behind : Upcoming → List PlainTask
tasks_behind u = to_run u.home u.rest ∷ u.tasks

-- what is made of the upcoming statement; no choice here has marks
abbrev pub statement_rule :
    PlainProgram → PlainState → PlainChoice → Upcoming → Attempt (List PlainGoal)
statement_rule p s c u = at_statement p s [] c u.home u.label u.act u.rest u.tasks

abbrev pub run_rule :
    PlainProgram → PlainState → PlainChoice → Option Upcoming → Attempt (List PlainGoal)
run_rule p s c None = not_applicable
run_rule p s c (Some u) = statement_rule p s c u

abbrev pub loop_rule : PlainState → Upcoming → Attempt (List PlainGoal)
loop_rule s u = at_turn s by_turn u.home u.label u.act u.rest u.tasks

abbrev pub turn_rule : PlainState → Option Upcoming → Attempt (List PlainGoal)
turn_rule s None = not_applicable
turn_rule s (Some u) = loop_rule s u

-- what is made of these tasks; no choice here has marks
abbrev pub tasks_rule :
    PlainProgram → PlainState → PlainChoice → List PlainTask → Attempt (List PlainGoal)
tasks_rule p s c ts = at_tasks p s [] c ts
