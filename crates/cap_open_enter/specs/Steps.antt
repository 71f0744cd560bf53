-- What opening a region makes of a goal.
use Rattle.std.specs.Prelude.{ℕ, nat_lt, List, length, slice_get}
use Rattle.cap_prog.specs.Program.{PlainAct, PlainProgram}
use Rattle.cap_rules_steps.specs.cap_goal_spec.States.{PlainState, PlainTask, PlainGoal}
use Rattle.cap_rules_steps.specs.cap_rules.Attempts.{Attempt, ◌>>=◌, found, need}
use Rattle.cap_rules_steps.specs.cap_rules.Closing.{address_of, of_type, prove_other, with_opened, case_goals}

-- the region of fact i is opened by the statement of this number
abbrev pub enter_at :
    PlainProgram → PlainState → ℕ → ℕ → PlainAct → List PlainTask → Attempt (List PlainGoal)
enter_at p s i n a ts = do
  _ ← found (address_of a)
  _ ← need (nat_lt (length s.opened) 2)
  f ← found (slice_get s.facts i)
  k ← found (slice_get p.regions f.kind)
  _ ← prove_other s f (of_type f.kind s.opened)
  case_goals (with_opened s i f) f n ts k.cases
