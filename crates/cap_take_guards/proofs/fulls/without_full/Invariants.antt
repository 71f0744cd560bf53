use Rattle.std.proofs.Common.{◌≡◌, drop}
use Rattle.cap_rules.specs.Taking.{without_full}
use Rattle.cap_rules_steps.proofs.Listing.{LeadsClaims}
use Rattle.cap_take_guards.proofs.fulls.without_full.Given as goal

abbrev pub invariant-loop-full : goal.invariant-loop-full
invariant-loop-full l = record {
  leads : LeadsClaims l.fn.ledger l.ledger (without_full l.fn.state.rows l.state.guards (drop l.full-index l.fulls)) (without_full l.fn.state.rows l.fn.state.guards l.fulls);
  kept : l.state ≡ record l.fn.state { guards = l.state.guards };
}
