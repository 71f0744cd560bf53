-- What a choice that opens a region, acts on a cell or closes a region makes of a goal, by its
-- head.
use Rattle.std.specs.Prelude.{ℕ, Bool, List, [], ◌∷◌, drop, Option, Some, None, option_map}
use Rattle.std.specs.Borrow.{Bor}
use Rattle.cap_farkas.specs.declared.cert.Cert.{Cert}
use Rattle.cap_prog.specs.Program.{PlainAct, Block, done, first, PlainProgram}
use Rattle.cap_prog.specs.Views.{act_view, statement_view}
use Rattle.cap_prog.specs.declared.function.Statement.{Statement}
use Rattle.cap_goal_spec.specs.States.{PlainState, Home, PlainTask, to_run, to_close, to_shift, PlainGoal}
use Rattle.cap_goal_spec.specs.Choices.{PlainChoice, by_enter, by_act, by_pick, by_shift}
use Rattle.cap_goal.specs.declared.task.Home as code_home
use Rattle.cap_goal.specs.declared.task.Point.{Point}
use Rattle.cap_goal.specs.Views.{home_view}
use Rattle.cap_rules.specs.Attempts.{Attempt, unit, ◌>>=◌, not_applicable}
use Rattle.cap_rules.specs.Rules.{at_close, at_shift}
use Rattle.cap_rules_steps.specs.Goals.{point_view}
use Rattle.cap_open.specs.declared.opening.Rule.{Rule}
use Rattle.cap_open.specs.declared.opening.Rule.TheVariants.{Enter, Act, Pick, Shift}
use Rattle.cap_open.specs.declared.heads.Ahead as code
use Rattle.cap_open.specs.declared.heads.Closing as code_closing
use Rattle.cap_open.specs.declared.heads.Shifting as code_shifting
use Rattle.cap_open_enter.specs.Steps.{enter_at}
use Rattle.cap_open_acts.specs.Steps.{act_at}

-- to open a region, to act on a cell, to choose how a region is closed, or to check that
abbrev pub IsOpening : PlainChoice → Type 0
IsOpening (by_enter i cs) = Unit {0}
IsOpening (by_act j cs ms) = Unit {0}
IsOpening (by_pick o c m) = Unit {0}
IsOpening (by_shift cs spans) = Unit {0}
IsOpening c = ⊥

-- the marks of a choice, where it has some
abbrev pub marks_in : PlainChoice → Option (List (Option Cert))
marks_in (by_act j cs ms) = Some ms
marks_in c = None

abbrev pub marks_seen : Option (Bor (List (Option Cert))) → Option (List (Option Cert))
marks_seen ms = option_map (λ l. l.now) ms

-- ---- at a statement

-- the statement that comes first, with its number, and what follows it
pub record Ahead : Type 0 where
  pub home : Home
  pub number : ℕ
  pub act : PlainAct
  pub rest : Block

abbrev pub ahead_view : code.Ahead → Ahead
ahead_view x = record {
  home = home_view x.home;
  number = x.number;
  act = act_view x.act.now;
  rest = point_view x.rest;
}

abbrev pub ahead_in : Home → Block → Attempt Ahead
ahead_in h done = not_applicable
ahead_in h (first l a rest) =
    unit (record { home = h; number = l.number; act = a; rest = rest })

-- this statement, and what follows it
abbrev pub statement_ahead : Home → Statement → Block → Ahead
statement_ahead h x rest = record {
  home = h;
  number = (statement_view x).label.number;
  act = (statement_view x).act;
  rest = rest;
}

abbrev pub run_at : PlainTask → Option (Home × Block)
run_at (to_run h b) = Some (h, b)
run_at t = None

abbrev pub run_view : code_home.Home × Bor Point → Home × Block
run_view x = (home_view x.0, point_view x.1.now)

abbrev pub ahead_at : PlainTask → Attempt Ahead
ahead_at (to_run h b) = ahead_in h b
ahead_at t = not_applicable

abbrev pub ahead_of : List PlainTask → Attempt Ahead
ahead_of [] = not_applicable
ahead_of (t ∷ ts) = ahead_at t

abbrev pub enter_first :
    PlainProgram → PlainState → ℕ → List PlainTask → Attempt (List PlainGoal)
enter_first p s i ts = do
  x ← ahead_of ts
  enter_at p s i x.number x.act ts

abbrev pub act_first :
    PlainState → ℕ → List Bool → List PlainTask → Attempt (List PlainGoal)
act_first s j marks ts = do
  x ← ahead_of ts
  act_at s j marks x.number x.act (to_run x.home x.rest ∷ drop 1 ts)

-- ---- where a region is to be closed

-- by any move, or only as it was; at the statement of this number
pub record Closing : Type 0 where
  pub any : Bool
  pub number : ℕ

abbrev pub closing_view : code_closing.Closing → Closing
closing_view x = record { any = x.any; number = x.number }

abbrev pub closing_at : PlainTask → Attempt Closing
closing_at (to_close any n) = unit (record { any = any; number = n })
closing_at t = not_applicable

abbrev pub closing_of : List PlainTask → Attempt Closing
closing_of [] = not_applicable
closing_of (t ∷ ts) = closing_at t

abbrev pub pick_first :
    PlainProgram → PlainState → ℕ → ℕ → ℕ → List PlainTask → Attempt (List PlainGoal)
pick_first p s o c m ts = do
  x ← closing_of ts
  at_close p s o c m x.any x.number (drop 1 ts)

-- ---- where a move is to be checked

-- opened region, case, move and environment, by their numbers
pub record Shifting : Type 0 where
  pub opened : ℕ
  pub case : ℕ
  pub move : ℕ
  pub env : ℕ

abbrev pub shifting_view : code_shifting.Shifting → Shifting
shifting_view x = record { opened = x.opened; case = x.case; move = x.action; env = x.env }

abbrev pub shifting_at : PlainTask → Attempt Shifting
shifting_at (to_shift o c m e n) = unit (record { opened = o; case = c; move = m; env = e })
shifting_at t = not_applicable

abbrev pub shifting_of : List PlainTask → Attempt Shifting
shifting_of [] = not_applicable
shifting_of (t ∷ ts) = shifting_at t

abbrev pub shift_first :
    PlainProgram → PlainState → List ℕ → List PlainTask → Attempt (List PlainGoal)
shift_first p s spans ts = do
  x ← shifting_of ts
  at_shift p s spans x.opened x.case x.move x.env (drop 1 ts)

-- ---- the four rules

pub data Taken : Type 0 where
  entering : ℕ → Taken
  acting : ℕ → Taken
  picking : ℕ → ℕ → ℕ → Taken
  shifting : List ℕ → Taken

abbrev pub rule_view : Rule → Taken
rule_view (Enter i) = entering i
rule_view (Act j) = acting j
rule_view (Pick o c m) = picking o c m
rule_view (Shift spans) = shifting spans.now

-- which of them the choice takes, if it takes one
abbrev pub rule_in : PlainChoice → Option Taken
rule_in (by_enter i cs) = Some (entering i)
rule_in (by_act j cs ms) = Some (acting j)
rule_in (by_pick o c m) = Some (picking o c m)
rule_in (by_shift cs spans) = Some (shifting spans)
rule_in c = None

abbrev pub taken_by :
    PlainProgram → PlainState → List Bool → List PlainTask → Taken → Attempt (List PlainGoal)
taken_by p s marks ts (entering i) = enter_first p s i ts
taken_by p s marks ts (acting j) = act_first s j marks ts
taken_by p s marks ts (picking o c m) = pick_first p s o c m ts
taken_by p s marks ts (shifting spans) = shift_first p s spans ts

abbrev pub taken :
    PlainProgram → PlainState → List Bool → List PlainTask → Option Taken →
    Attempt (List PlainGoal)
taken p s marks ts None = not_applicable
taken p s marks ts (Some r) = taken_by p s marks ts r
