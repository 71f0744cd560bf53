-- Terms whose parts ascend, and states, goals and programs that have only such terms.
use Rattle.std.specs.Prelude.{Option, Some, None}
use Rattle.std.specs.List.{AllByRecursion}
use Rattle.cap_lin.specs.Linear.{Linear, AscendFrom}
use Rattle.cap_lin.specs.declared.row.Row.{Row}
use Rattle.cap_gsolve.specs.declared.piece.Form.{Form}
use Rattle.cap_gsolve.specs.declared.piece.Form.TheVariants.{One, Share, Src, Tok, Span}
use Rattle.cap_gsolve.specs.declared.piece.Piece.{Piece}
use Rattle.cap_prog.specs.declared.assertion.Comp.{Comp}
use Rattle.cap_prog.specs.Program.{PlainCase, PlainRegionType, PlainProgram}
use Rattle.cap_rules.specs.cap_goal_spec.States.{PlainFact, PlainEnv, PlainState, PlainTask, to_run, to_turn, to_give, to_take, to_make, to_close, to_shift, to_rest, PlainGoal}

abbrev pub TermAscends : Linear → Type 0
TermAscends t = AscendFrom 0 t.parts

abbrev pub RowAscends : Row → Type 0
RowAscends r = TermAscends r.term

abbrev pub NameAscends : Option Linear → Type 0
NameAscends None = Unit {0}
NameAscends (Some t) = TermAscends t

abbrev pub FormAscends : Form → Type 0
FormAscends One = Unit {0}
FormAscends (Share a) = TermAscends a
FormAscends (Src n) = TermAscends n
FormAscends (Tok k) = TermAscends k
FormAscends (Span a e) = TermAscends a × NameAscends e

pub record PieceAscends (q : Piece) : Type 0 where
  pub region : TermAscends q.region
  pub form : FormAscends q.form

pub record FactAscends (f : PlainFact) : Type 0 where
  pub region : TermAscends f.region
  pub args : AllByRecursion TermAscends f.args
  pub state : TermAscends f.state

pub record CellAscends (c : Linear × Linear) : Type 0 where
  pub address : TermAscends c.0
  pub content : TermAscends c.1

abbrev pub EnvAscends : PlainEnv → Type 0
EnvAscends env = AllByRecursion NameAscends env

pub record StateAscends (s : PlainState) : Type 0 where
  pub rows : AllByRecursion RowAscends s.rows
  pub store : AllByRecursion TermAscends s.store
  pub cells : AllByRecursion CellAscends s.cells
  pub facts : AllByRecursion FactAscends s.facts
  pub guards : AllByRecursion PieceAscends s.guards
  pub before : AllByRecursion PieceAscends s.before
  pub opened : AllByRecursion FactAscends s.opened
  pub envs : AllByRecursion EnvAscends s.envs

-- a task has a term of its own only for a region that is created
abbrev pub TaskAscends : PlainTask → Type 0
TaskAscends (to_run h b) = Unit {0}
TaskAscends (to_turn h b) = Unit {0}
TaskAscends (to_give items e n) = Unit {0}
TaskAscends (to_take items e left n) = Unit {0}
TaskAscends (to_make k c e t n) = TermAscends t
TaskAscends (to_close any n) = Unit {0}
TaskAscends (to_shift o c m e n) = Unit {0}
TaskAscends (to_rest j n) = Unit {0}

pub record GoalAscends (g : PlainGoal) : Type 0 where
  pub state : StateAscends g.state
  pub tasks : AllByRecursion TaskAscends g.tasks

-- ---- programs: the terms of states and conditions of cases stand at roots as they are written

pub record CompAscends (c : Comp) : Type 0 where
  pub left : TermAscends c.left
  pub right : TermAscends c.right

pub record CaseAscends (c : PlainCase) : Type 0 where
  pub state : TermAscends c.state
  pub when : AllByRecursion CompAscends c.when

abbrev pub TypeAscends : PlainRegionType → Type 0
TypeAscends k = AllByRecursion CaseAscends k.cases

abbrev pub ProgramAscends : PlainProgram → Type 0
ProgramAscends p = AllByRecursion TypeAscends p.regions
