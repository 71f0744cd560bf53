-- What the parts of the rule make that opens a region. Only private functions cite this.
use Rattle.std.specs.Prelude.{◌==◌, if◌then◌else◌}
use Rattle.cap_lin.specs.declared.row.Sort.TheVariants.{Int}
use Rattle.cap_lin.specs.declared.row.Op.TheVariants.{Eq as Equal}
use Rattle.cap_prog.specs.Program.{PlainCase}
use Rattle.cap_rules_steps.specs.cap_goal_spec.States.{PlainFact, PlainEnv, PlainState}
use Rattle.cap_rules_steps.specs.cap_rules.Attempts.{Attempt, unit, ◌>>=◌}
use Rattle.cap_rules_steps.specs.cap_rules.Making.{is_empty, determined, rows_by, prove_differ, with_comparison, with_rows, with_env}

-- the region is another than an opened one, where they are of one type
abbrev pub one_other : PlainState → PlainFact → PlainFact → Attempt (Unit {0})
one_other s f o = if o.kind == f.kind then prove_differ s f.region o.region else unit tt

-- where no region is opened a step begins, and the guards that are held are those held before it
abbrev pub step_begun : PlainState → PlainState
step_begun s = record s { before = if is_empty s.opened then s.guards else s.before }

-- what is known where the opened region is in a case, by an environment that is appended
abbrev pub case_known : PlainState → PlainFact → PlainCase → PlainEnv → Attempt PlainState
case_known s f c env = do
  t ← determined env c.state
  s' ← with_comparison s f.state Equal t Int
  rows ← rows_by env c.when
  s'' ← with_rows s' rows
  with_env s'' env
