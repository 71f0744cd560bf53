-- What contracts see of facts, cells and terms that are lent.
use Rattle.std.specs.Borrow.{Bor}
use Rattle.cap_lin.specs.Linear.{Linear}
use Rattle.cap_rules_steps.specs.cap_goal_spec.States.{PlainFact}

abbrev pub fact_lent : Bor PlainFact → PlainFact
fact_lent f = f.now

abbrev pub cell_lent : Bor (Linear × Linear) → Linear × Linear
cell_lent c = c.now

abbrev pub term_lent : Bor Linear → Linear
term_lent t = t.now
