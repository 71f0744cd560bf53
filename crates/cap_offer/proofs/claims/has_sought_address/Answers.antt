use Rattle.std.proofs.Common.{List, ap, subst, ◌∙◌}
use Rattle.cap_lin.specs.declared.row.Row.{Row}
use Rattle.cap_rules_steps.specs.Walks.{Claims, giving}
use Rattle.cap_offer.specs.Seeking.{sought_address}
use Rattle.cap_offer.specs.Views.{sought_view}
use Rattle.std.specs.Prelude.{is_some}
use Rattle.cap_offer.proofs.Placed.{some-seen}
use Rattle.cap_offer.proofs.claims.has_sought_address.Goals as goal

pub returns : goal.returns
returns c =
    let o = sought_address c.args.state.now (sought_view c.args.sought) c.args.cell.now in
    let k = subst (λ (ls : List (List Row)). Claims (giving c.claim-outcome.result tt) ls c.claim-outcome.new.ledger o) c.new-ledger.ensures c.claim-outcome.ensures in
    let h = c.in_ok-certs.ensures o k in
    (c.is_some.ensures ∙ (some-seen c.in_ok-certs.certs ∙ ap is_some h.0), h.1)
