-- What the rules make of statements, each by itself.
use Rattle.std.specs.Prelude.{ℕ, nat_lt, pos, Option, Some, None, List, [], ◌∷◌, drop, length, slice_get}
use Rattle.std.specs.Borrow.{Bor}
use Rattle.cap_lin.specs.Linear.{Linear, number}
use Rattle.cap_prog.specs.declared.assertion.Comp.{Comp}
use Rattle.cap_prog.specs.Program.{PlainProgram, PlainAssertion}
use Rattle.cap_goal_spec.specs.States.{PlainState, Home, PlainTask, to_take, to_rest, to_give, PlainGoal}
use Rattle.cap_goal_spec.specs.Environments.{zero_value, bound, unbound, own_env}
use Rattle.cap_rules.specs.Attempts.{Attempt, unit, ◌>>=◌, found, need, prove}
use Rattle.cap_rules.specs.Making.{sum, value_here, row_here, prove_equal, with_local, with_cell, with_env}
use Rattle.cap_rules.specs.Rules.{leaves, called, own_params}

-- a local becomes a term's value
abbrev pub at_set : PlainState → ℕ → Linear → List PlainTask → Attempt (List PlainGoal)
at_set s x t ts = do
  u ← value_here s t
  leaves (with_local s x u) ts

-- a comparison is proved
abbrev pub at_assert : PlainState → Comp → List PlainTask → Attempt (List PlainGoal)
at_assert s c ts = do
  q ← row_here s c.op c
  _ ← prove s.rows q
  leaves s ts

-- a loop is left to its own tree, its invariant given up
abbrev pub at_loop :
    PlainProgram → PlainState → Home → PlainAssertion → ℕ → Attempt (List PlainGoal)
at_loop p s h i n = do
  f ← found (slice_get p.functions h.function)
  s' ← with_env s
      (own_env f h (own_params s f) (bound (drop f.params s.store)) None (length i.names))
  leaves s' (to_take i.items (length s.envs) 3 n ∷ [])

-- a call: the precondition is given up, the facts are settled, and the postcondition is assumed
abbrev pub at_call :
    PlainProgram → PlainState → Option ℕ → ℕ → List Linear → ℕ → List PlainTask →
    Attempt (List PlainGoal)
at_call p s x g args n ts = do
  f ← found (slice_get p.functions g)
  s' ← called s f args x
  leaves s'
      (to_take f.requires (length s.envs) 3 n
      ∷ to_rest 0 n
      ∷ to_give f.ensures.items (length s.envs) n
      ∷ ts)

-- a fork: the precondition is given up, and the facts are settled
abbrev pub at_fork :
    PlainProgram → PlainState → ℕ → List Linear → ℕ → List PlainTask → Attempt (List PlainGoal)
at_fork p s g args n ts = do
  f ← found (slice_get p.functions g)
  s' ← called s f args None
  leaves s' (to_take f.requires (length s.envs) 3 n ∷ to_rest 0 n ∷ ts)

-- a return: the postcondition is given up
abbrev pub at_return : PlainProgram → PlainState → Home → Linear → ℕ → Attempt (List PlainGoal)
at_return p s h t n = do
  f ← found (slice_get p.functions h.function)
  u ← value_here s t
  s' ← with_env s
      (own_env f h (own_params s f) (unbound f.locals) (Some u) (length f.ensures.names))
  leaves s' (to_take f.ensures.items (length s.envs) 3 n ∷ [])

-- a cell of value 0, so far behind an address
abbrev pub with_new_cell : Linear → ℕ → PlainState → Attempt PlainState
with_new_cell b i s = do
  a ← sum b (number (pos i))
  with_cell s a zero_value

-- two cells are proved to be at one address; the first has the lower number
abbrev pub two_cells : PlainState → ℕ → ℕ → Attempt (List PlainGoal)
two_cells s i j = do
  _ ← need (nat_lt i j)
  c ← found (slice_get s.cells i)
  d ← found (slice_get s.cells j)
  _ ← prove_equal s c.0 d.0
  unit []

-- a cell that is lent
abbrev pub cell_view : Bor (Linear × Linear) → Linear × Linear
cell_view c = c.now
