-- What has to be proved before a choice is known: that a cell is the one that is looked for, and that
-- an action of the others keeps what is known of a fact.
use Rattle.std.specs.Prelude.{ℕ, List}
use Rattle.cap_lin.specs.Linear.{Linear}
use Rattle.cap_lin.specs.declared.row.Row.{Row}
use Rattle.cap_rules.specs.cap_prog.Program.{PlainAct, PlainAction, PlainRegionType}
use Rattle.cap_rules.specs.cap_goal_spec.States.{PlainFact, PlainState}
use Rattle.cap_rules.specs.Attempts.{Attempt, ◌>>=◌, found}
use Rattle.cap_rules.specs.Making.{value_here, determined, prove_equal, env_at}
use Rattle.cap_rules.specs.Closing.{address_of}
use Rattle.cap_rules.specs.Resting.{system, action_names, prove_closed}

-- the cell has the address of the heap statement
abbrev pub has_address : PlainState → PlainAct → Linear × Linear → Attempt (Unit {0})
has_address s a c = do
  x ← found (address_of a)
  t ← value_here s x
  prove_equal s c.0 t

-- the cell has the address of an item, by environment number e
abbrev pub has_item_address : PlainState → ℕ → Linear → Linear × Linear → Attempt (Unit {0})
has_item_address s e a c = do
  t ← determined (env_at s e) a
  prove_equal s t c.0

-- the rows `named` hold of the fact's later state after the action, where the rows `known` hold
-- before it
abbrev pub keeps_after :
    PlainRegionType → PlainState → PlainFact → List Row → PlainAction → List Row →
    Attempt (Unit {0})
keeps_after k s f known a named = do
  rows ← system k s f known a (action_names k s f a)
  prove_closed s named a (action_names k s f a) rows
