-- A goal for each case of an opened region.
use Rattle.std.proofs.Common.{◌≡◌, ℕ, List, [], ◌∷◌, map, length, refl}
use Rattle.cap_prog.specs.declared.region.Case.{Case}
use Rattle.cap_prog.specs.Views.{case_view}
use Rattle.cap_rules_steps.specs.cap_goal_spec.States.{PlainFact, PlainState, PlainTask, to_give, PlainGoal, goals_of}
use Rattle.cap_goal.specs.declared.goal.Goal.{Goal}
use Rattle.cap_goal.specs.Views.{goal_view}
use Rattle.cap_rules_steps.specs.cap_rules.Attempts.{Attempt}
use Rattle.cap_rules_steps.specs.cap_rules.Closing.{in_case, case_goals}
use Rattle.cap_rules_steps.proofs.Walking.{LeadsBehind}
use Rattle.cap_open_enter.proofs.Stepping.{Chunks}

abbrev pub cases_of : PlainState → PlainFact → ℕ → List PlainTask → List Case → Attempt (List PlainGoal)
cases_of s f n ts cs = case_goals s f n ts (map case_view cs)

abbrev pub one_case : PlainState → PlainFact → Case → Attempt PlainState
one_case s f c = in_case s f (case_view c)

-- the items of the case are given first
abbrev pub given : PlainState → ℕ → List PlainTask → PlainState → Case → List PlainGoal
given s n ts next c = goals_of next (to_give (case_view c).items (length s.envs) n ∷ ts)

pub cases_chunk : (s : PlainState) (f : PlainFact) (n : ℕ) (ts : List PlainTask) → Chunks (cases_of s f n ts) (one_case s f) (given s n ts)
unfolding Chunks
cases_chunk s f n ts = λ c cs. refl

pub none-yet : (goals : List Goal) (o : Attempt (List PlainGoal)) → goals ≡ [] → LeadsBehind (map goal_view goals) o o
none-yet goals o e = rw e (record { ok = λ ys k. k; fails = λ x k. k })
