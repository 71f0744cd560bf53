-- What has to be proved of a cell that has the address of a heap statement.
use Rattle.cap_lin.specs.Linear.{Linear}
use Rattle.cap_goal_spec.specs.States.{PlainState}
use Rattle.cap_rules.specs.Attempts.{Attempt, ◌>>=◌}
use Rattle.cap_rules.specs.Making.{value_here, prove_equal}

-- the cell has the address that a term of a statement stands for
abbrev pub value_claim : PlainState → Linear → Linear × Linear → Attempt (Unit {0})
value_claim s x c = do
  t ← value_here s x
  prove_equal s c.0 t
