-- A region is created, once its arguments are there.
use Rattle.std.specs.Prelude.{ℕ, List, ◌∷◌, length}
use Rattle.cap_lin.specs.Linear.{Linear}
use Rattle.cap_prog.specs.declared.assertion.Slot.{Slot}
use Rattle.cap_prog.specs.Program.{PlainItem, Items, PlainCase, PlainRegionType, PlainProgram}
use Rattle.cap_goal_spec.specs.States.{PlainState, PlainTask, to_take, to_make, PlainGoal}
use Rattle.cap_goal_spec.specs.Environments.{zero_value}
use Rattle.cap_rules.specs.Attempts.{Attempt, ◌>>=◌}
use Rattle.cap_rules.specs.Making.{determined_slot, fresh, with_env, env_at, fact_of}
use Rattle.cap_rules.specs.Taking.{with_new_region, case_env}
use Rattle.cap_rules.specs.Rules.{Remaining, leaves, stays}

-- the items of the case are given up by environment e, then the fact of region t is stated, and
-- then the item that stays is given up again, with so many creations left
abbrev pub begun_tasks :
    PlainState → Items → ℕ → ℕ → ℕ → Linear → PlainItem → ℕ → Remaining → List PlainTask
begun_tasks s is k c e t i left r =
    to_take is e left r.statement
    ∷ to_make k c e t r.statement
    ∷ stays s i left r
    ∷ r.tasks

-- a region of type y, number k, and of these arguments is there, and the environment of its case z
abbrev pub state_begun :
    PlainProgram → PlainState → PlainRegionType → PlainCase → ℕ → List Linear → Slot → ℕ →
    Attempt PlainState
state_begun p s y z k us x e = do
  s' ← with_new_region p s y k
  env ← case_env y z (fact_of (fresh s) k us zero_value) (determined_slot (env_at s e) x)
  with_env s' env

-- the region is begun in case z, number c
abbrev pub begun :
    PlainProgram → PlainState → PlainRegionType → PlainCase → ℕ → ℕ → List Linear → Slot →
    PlainItem → ℕ → Remaining → Attempt (List PlainGoal)
begun p s y z c k us x i left r = do
  s' ← state_begun p s y z k us x r.env
  leaves s' (begun_tasks s z.items k c (length s.envs) (fresh s) i left r)
