use Rattle.std.proofs.Common.{arith}
use Rattle.cap_open_enter.proofs.Members.{member-there, member-lacking}
use Rattle.cap_open_enter.proofs.lookup.fact_at.Goals as goal

pub returns-then-number-facts : goal.returns-then-number-facts
returns-then-number-facts c = member-lacking c.args.facts.now c.args.number (omega arith)

pub returns : goal.returns
returns c = member-there c.args.facts.now c.args.number c.index-facts-number.result (omega arith) c.index-facts-number.is
