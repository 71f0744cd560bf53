-- A move up to its indexed atoms, and all of it but what is proved of these.
use Rattle.std.specs.Prelude.{ℕ, List, [], ◌∷◌, length}
use Rattle.cap_lin.specs.Linear.{Linear}
use Rattle.cap_lin.specs.declared.row.Row.{Row}
use Rattle.cap_rules.specs.cap_prog.declared.assertion.Asked.{Asked}
use Rattle.cap_rules.specs.cap_prog.Program.{PlainCase, PlainAction}
use Rattle.cap_rules.specs.cap_goal_spec.States.{PlainFact, PlainEnv, PlainState}
use Rattle.cap_rules.specs.cap_goal_spec.Environments.{asked_slot, unbound, region_env}
use Rattle.cap_rules.specs.Attempts.{Attempt, unit, ◌>>=◌}
use Rattle.cap_rules.specs.Answers.{Answer, applies}
use Rattle.cap_rules.specs.Making.{determined, determined_slot, prove_comparisons}
use Rattle.cap_rules.specs.Closing.{match_ready, match_all, parts_of, indexed_of, with_closed}

-- what is known when the indexed atoms' turn comes
pub record Turn : Type 0 where
  pub state : Linear
  pub env : PlainEnv

-- a region that is closed in a case by an action, up to the indexed atoms
abbrev pub up_to_spans :
    PlainState → PlainFact → PlainCase → PlainEnv → PlainAction → Attempt Turn
up_to_spans s f x env a = do
  _ ← prove_comparisons s.rows env x.when
  new ← determined env x.state
  m ← match_ready s f new a (region_env f (unbound (length a.names))) [] (parts_of a)
  env' ← match_all s f new a m.env m.waiting
  unit (record { state = new; env = env' })

abbrev pub indices_known : PlainEnv → List (ℕ × Asked) → Attempt (Unit {0})
indices_known env [] = unit tt
indices_known env (g ∷ gs) = do
  _ ← determined_slot env (asked_slot g.1)
  indices_known env gs

-- all terms but those of the spans
abbrev pub but_spans :
    PlainState → ℕ → PlainFact → PlainCase → PlainEnv → PlainAction → Attempt PlainState
but_spans s o f x env a = do
  t ← up_to_spans s f x env a
  _ ← indices_known t.env (indexed_of a)
  _ ← prove_comparisons s.rows t.env a.when
  with_closed s o f t.state

-- the terms come first, and then the proofs up to the spans
abbrev pub with_lists : List (List Row) → Answer (List (List Row)) → Answer (List (List Row))
with_lists before (applies ls) = applies before
with_lists before a = a
