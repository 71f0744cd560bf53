-- What is proved of one candidate, or for one action. Only private functions cite this.
use Rattle.std.specs.Prelude.{List, [], ◌∷◌, length}
use Rattle.cap_lin.specs.Linear.{Linear, replaced}
use Rattle.cap_lin.specs.Steps.{replaced_steps}
use Rattle.cap_lin.specs.declared.row.Row.{Row}
use Rattle.cap_prog.specs.Program.{PlainAction, PlainRegionType}
use Rattle.cap_goal_spec.specs.States.{PlainFact, PlainState}
use Rattle.cap_rules.specs.Attempts.{Attempt, ◌>>=◌, computed, prove}
use Rattle.cap_rules.specs.Resting.{action_names, system, prove_closed, prove_same}

-- the rows prove the candidate, with this term for the later state
abbrev pub proved_one : PlainState → List Row → Linear → Row → Attempt (Unit {0})
proved_one s rows t r = do
  u ← computed (replaced (length s.sorts) t r.term) (replaced_steps (length s.sorts) t r.term)
  prove rows (record r { term = u })

-- the candidates hold after the action
abbrev pub stable_for :
    PlainRegionType → PlainState → PlainFact → List Row → PlainAction → Attempt (Unit {0})
stable_for k s f named a = do
  rows ← system k s f named a (action_names k s f a)
  prove_closed s named a (action_names k s f a) rows

-- the state is the same after the action
abbrev pub kept_for :
    PlainRegionType → PlainState → PlainFact → Row → PlainAction → Attempt (Unit {0})
kept_for k s f same a = do
  rows ← system k s f (same ∷ []) a (action_names k s f a)
  prove_same f a (action_names k s f a) rows
