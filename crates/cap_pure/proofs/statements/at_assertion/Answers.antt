use Rattle.cap_prog.specs.Views.{program_view}
use Rattle.cap_rules_steps.proofs.Walking.{weaker}
use Rattle.cap_pure.proofs.Others.{no-assert}
use Rattle.cap_pure.proofs.statements.at_assertion.Goals as goal

pub returns-in_default : goal.returns-in_default
returns-in_default c certs = weaker _ _ c.args.ledger.now (no-assert (program_view c.args.program.now) c.args.state.now certs c.args.next.now c.in_default.not-Assert)
