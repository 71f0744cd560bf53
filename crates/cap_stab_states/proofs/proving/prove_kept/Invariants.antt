use Rattle.std.proofs.Common.{map, drop}
use Rattle.cap_prog.specs.Views.{action_view, region_view}
use Rattle.cap_rules.specs.Resting.{prove_kept}
use Rattle.cap_stab_states.proofs.Claiming.{Owes}
use Rattle.cap_stab_states.proofs.proving.prove_kept.Given as goal

abbrev pub invariant-loop-action : goal.invariant-loop-action
invariant-loop-action l = Owes l.ledger (prove_kept (region_view l.region) l.state l.fact l.same (map action_view (drop l.action-index l.region.actions.items))) l.fn.ledger (prove_kept (region_view l.region) l.state l.fact l.same (map action_view l.region.actions.items))
