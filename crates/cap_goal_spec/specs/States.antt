-- Symbolic states, and goals: a state with the tasks that are to be done from it.
use Rattle.std.specs.Prelude.{ℕ, ◌==◌, Bool, false, if◌then◌else◌, List, [], ◌∷◌, length, option_to_list, Option, Some, None}
use Rattle.cap_fm_spec.specs.cap_lin.Linear.{Linear}
use Rattle.cap_fm_spec.specs.cap_lin.declared.row.Row.{Row}
use Rattle.cap_fm_spec.specs.cap_lin.declared.row.Sort.{Sort}
use Rattle.cap_gsolve.specs.declared.piece.Piece.{Piece}
use Rattle.cap_prog.specs.Program.{Items, none, Block}

-- a region, its type, its arguments without the region itself, and its state. A fact is loose while
-- what it says of the state is out of date
pub record PlainFact : Type 0 where
  pub region : Linear
  pub kind : ℕ
  pub args : List Linear
  pub state : Linear
  pub loose : Bool

-- the fact in another state, no longer loose
abbrev pub with_state : PlainFact → Linear → PlainFact
with_state f t = record f { state = t; loose = false }

-- for each name of an assertion a term, or nothing while the name is unbound
abbrev pub PlainEnv : Type 0
PlainEnv = List (Option Linear)

pub record PlainState : Type 0 where
  pub sorts : List Sort  -- of each variable
  pub rows : List Row  -- what is known
  pub store : List Linear  -- the values of parameters and locals
  pub cells : List (Linear × Linear)  -- addresses and what they hold
  pub facts : List PlainFact
  pub guards : List Piece
  pub before : List Piece  -- the guards when the first region of this step was opened; none outside
  pub opened : List PlainFact  -- the opened regions, with their states before the step
  pub envs : List PlainEnv

-- a list of a state has at most so many members
abbrev pub longest_list : ℕ
longest_list = 100000000

-- a tree's function, and its first variable of a fixed name
pub record Home : Type 0 where
  pub function : ℕ
  pub fixed : ℕ

-- the last number is that of the statement at which the task arose, 0 outside a body; environments
-- are named by number
pub data PlainTask : Type 0 where
  to_run : Home → Block → PlainTask  -- these statements
  to_turn : Home → Block → PlainTask  -- at the loop that comes first, its invariant given
  to_give : Items → ℕ → ℕ → PlainTask  -- assume the items in an environment
  to_take :
      Items → ℕ → ℕ → ℕ →
      PlainTask  -- give the items up, in an environment; so many creations are allowed
  to_make :
      ℕ → ℕ → ℕ → Linear → ℕ → PlainTask  -- a created region's type, case, environment and term
  to_close : Bool → ℕ → PlainTask  -- one opened region, by any move or only as it was
  to_shift :
      ℕ → ℕ → ℕ → ℕ → ℕ → PlainTask  -- check the move: opened region, case, move, environment
  to_rest : ℕ → ℕ → PlainTask  -- settle the facts from this number on

pub record PlainGoal : Type 0 where
  pub state : PlainState
  pub tasks : List PlainTask

abbrev pub goal : PlainState → List PlainTask → PlainGoal
goal s ts = record { state = s; tasks = ts }

-- the goal of these tasks. A task without anything to do is removed as soon as it is first; without
-- tasks there is no goal
abbrev pub goal_of : PlainState → List PlainTask → Option PlainGoal
goal_of s [] = None
goal_of s (to_give none e n ∷ ts) = goal_of s ts
goal_of s (to_take none e left n ∷ ts) = goal_of s ts
goal_of s (to_rest j n ∷ ts) =
    if j == length s.facts then goal_of s ts else Some (goal s (to_rest j n ∷ ts))
goal_of s (t ∷ ts) = Some (goal s (t ∷ ts))

abbrev pub goals_of : PlainState → List PlainTask → List PlainGoal
goals_of s ts = option_to_list (goal_of s ts)
