use Rattle.cap_prog.specs.Views.{region_view}
use Rattle.cap_rules.specs.Resting.{keep}
use Rattle.cap_offer_spec.specs.Deciding.{certified}
use Rattle.cap_closure_decide.specs.Noting.{certs_seen}
use Rattle.cap_closure.specs.Tested.{without_value}
use Rattle.cap_closure.proofs.Attempts.{without-certified}
use Rattle.cap_closure.proofs.Starts.{adds-as}
use Rattle.cap_closure.proofs.settling.keep_certs.Goals as goal

pub returns : goal.returns
returns c =
    let a = c.args in
    let o = keep (region_view a.region.now) a.state.now a.number a.fact.now in
    let h = rw c.new-ledger.ensures at c.claim_kept-outcome.ensures in
    adds-as certs_seen c.certified.result a.notes.now _ (certified (without_value o)) (certified o) (without-certified o a.notes.now) (c.certified.ensures (without_value o) h)
