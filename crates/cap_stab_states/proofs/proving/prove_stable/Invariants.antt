use Rattle.std.proofs.Common.{map, drop}
use Rattle.cap_prog.specs.Views.{action_view, region_view}
use Rattle.cap_rules.specs.Resting.{prove_stable}
use Rattle.cap_stab_states.proofs.Claiming.{Owes}
use Rattle.cap_stab_states.proofs.proving.prove_stable.Given as goal

abbrev pub invariant-loop-action : goal.invariant-loop-action
invariant-loop-action l = Owes l.ledger (prove_stable (region_view l.region) l.state l.fact l.named (map action_view (drop l.action-index l.region.actions.items))) l.fn.ledger (prove_stable (region_view l.region) l.state l.fact l.named (map action_view l.region.actions.items))
