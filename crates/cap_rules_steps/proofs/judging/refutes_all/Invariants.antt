use Rattle.cap_goal.specs.Views.{certs_in}
use Rattle.cap_rules_steps.proofs.Judges.{LeftAt}
use Rattle.cap_rules_steps.proofs.judging.refutes_all.Given as goal

abbrev pub invariant-loop-number : goal.invariant-loop-number
invariant-loop-number l = LeftAt l.ledger (certs_in l.certs) l.number
