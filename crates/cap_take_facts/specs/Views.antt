-- What contracts see of facts and cases that are lent.
use Rattle.std.specs.Borrow.{Bor}
use Rattle.cap_prog.specs.declared.region.Case.{Case}
use Rattle.cap_prog.specs.Program.{PlainCase}
use Rattle.cap_prog.specs.Views.{case_view}
use Rattle.cap_goal_spec.specs.States.{PlainFact}

abbrev pub fact_lent : Bor PlainFact → PlainFact
fact_lent f = f.now

abbrev pub case_lent : Bor Case → PlainCase
case_lent c = case_view c.now
