use Rattle.std.proofs.Common.{drop}
use Rattle.cap_rules.specs.Resting.{prove_at}
use Rattle.cap_stab_states.proofs.Claiming.{Owes}
use Rattle.cap_stab_states.proofs.proving.prove_at.Given as goal

abbrev pub invariant-loop-candidate : goal.invariant-loop-candidate
invariant-loop-candidate l = Owes l.ledger (prove_at l.state l.rows l.term (drop l.candidate-index l.named)) l.fn.ledger (prove_at l.state l.rows l.term l.named)
