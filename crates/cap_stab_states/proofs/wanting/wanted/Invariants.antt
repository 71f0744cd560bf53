use Rattle.std.proofs.Common.{drop}
use Rattle.cap_rules_steps.proofs.Walking.{Leads}
use Rattle.cap_stab_states.specs.Wanting.{wanted_from}
use Rattle.cap_stab_states.proofs.Collecting.{behind_these}
use Rattle.cap_stab_states.proofs.wanting.wanted.Given as goal

abbrev pub invariant-loop-i : goal.invariant-loop-i
invariant-loop-i l = Leads (behind_these l.wanted.items (wanted_from l.names (drop l.i l.wildcards) (drop l.i l.guards))) (wanted_from l.names l.wildcards l.guards)
