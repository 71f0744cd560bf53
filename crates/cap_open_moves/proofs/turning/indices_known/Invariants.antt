use Rattle.std.proofs.Common.{drop}
use Rattle.cap_rules_steps.proofs.Walking.{Leads}
use Rattle.cap_open_moves.proofs.Indexed.{indices_of}
use Rattle.cap_open_moves.proofs.turning.indices_known.Given as goal

abbrev pub invariant-loop-guard : goal.invariant-loop-guard
invariant-loop-guard l = Leads (indices_of l.env (drop l.guard-index l.guards)) (indices_of l.env l.guards)
