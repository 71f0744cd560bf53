-- Choosing how a region is closed, and checking that, step by step.
use Rattle.std.specs.Prelude.{ℕ, Bool, List, ◌∷◌, length, find, slice_get}
use Rattle.cap_lin.specs.Linear.{Linear}
use Rattle.cap_gsolve.specs.Pieces.{of_atom}
use Rattle.cap_prog.specs.declared.assertion.Asked.{Asked}
use Rattle.cap_prog.specs.Program.{PlainCase, PlainRegionType}
use Rattle.cap_goal_spec.specs.States.{PlainFact, PlainEnv, PlainState, PlainTask, to_take, to_shift, PlainGoal}
use Rattle.cap_goal_spec.specs.Environments.{asked_slot}
use Rattle.cap_rules.specs.Attempts.{Attempt, ◌>>=◌, found, need}
use Rattle.cap_rules.specs.Making.{is_empty, determined, determined_slot, prove_comparisons, prove_equal, env_at, with_env}
use Rattle.cap_rules.specs.Closing.{source_env, match_form, prove_within, prove_action, prove_move, with_closed}
use Rattle.cap_rules.specs.Rules.{leaves, creations}

-- the state to which action i leads, as far as the old state says it
abbrev pub action_target : PlainRegionType → PlainFact → ℕ → Attempt Linear
action_target k f i = do
  a ← found (slice_get k.actions i)
  determined (source_env k f a) a.target

-- the items of the case are given up in this environment, and then the move is checked
abbrev pub picked :
    PlainState → PlainEnv → PlainCase → ℕ → ℕ → ℕ → Bool → ℕ → List PlainTask →
    Attempt (List PlainGoal)
picked s env x o c m any n ts = do
  s' ← with_env s env
  leaves s'
      (to_take x.items (length s.envs) (creations any) n
      ∷ to_shift o c m (length s.envs) n
      ∷ ts)

-- the guard of an atom is matched with what was held of it before the step
abbrev pub guard_matched :
    PlainState → PlainFact → PlainEnv → ℕ → Asked → Attempt PlainEnv
guard_matched s f env i asked = do
  q ← found (find (of_atom f.region f.kind i) s.before)
  match_form s env asked q.form

-- one indexed atom, out of the piece whose number stands at this place
abbrev pub one_span :
    PlainState → PlainFact → PlainEnv → ℕ × Asked → List ℕ → ℕ → Attempt (Unit {0})
one_span s f env g js n = do
  i ← determined_slot env (asked_slot g.1)
  j ← found (slice_get js n)
  q ← found (slice_get s.before j)
  _ ← need (of_atom f.region f.kind g.0 q)
  prove_within s g.1 q.form i

-- the state is kept, and no piece is named
abbrev pub kept_proved : PlainState → PlainFact → Linear → List ℕ → Attempt (Unit {0})
kept_proved s f new spans = do
  _ ← need (is_empty spans)
  prove_equal s new f.state

-- action i leads from the old state to the new one
abbrev pub numbered_proved :
    PlainRegionType → PlainState → PlainFact → Linear → ℕ → List ℕ → Attempt (Unit {0})
numbered_proved k s f new i spans = do
  a ← found (slice_get k.actions i)
  prove_action s f new a spans

-- opened region o is closed by a move to a new state
abbrev pub moved :
    PlainRegionType → PlainState → ℕ → PlainFact → Linear → ℕ → List ℕ → List PlainTask →
    Attempt (List PlainGoal)
moved k s o f new m spans ts = do
  _ ← prove_move k s f new m spans
  s' ← with_closed s o f new
  leaves s' ts

-- opened region o is closed in a case by a move
abbrev pub shifted :
    PlainRegionType → PlainState → ℕ → PlainFact → PlainCase → ℕ → List ℕ → ℕ →
    List PlainTask → Attempt (List PlainGoal)
shifted k s o f x m spans e ts = do
  _ ← prove_comparisons s.rows (env_at s e) x.when
  new ← determined (env_at s e) x.state
  moved k s o f new m spans ts
