use Rattle.std.proofs.Common.{arith}
use Rattle.cap_prog.specs.Views.{case_view}
use Rattle.cap_rules_steps.proofs.Listing.{none_there}
use Rattle.cap_take_facts.proofs.Lists.{view-there}
use Rattle.cap_take_facts.proofs.lookup.case_at.Goals as goal

pub returns-then-number-len : goal.returns-then-number-len
returns-then-number-len c = none_there case_view c.args.region.now.cases.items c.args.number (omega arith)

pub returns : goal.returns
returns c = view-there case_view c.args.region.now.cases.items c.args.number c.index.result.now (omega arith) c.index.ensures
