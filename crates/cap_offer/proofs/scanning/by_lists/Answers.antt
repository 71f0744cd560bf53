use Rattle.std.proofs.Common.{take, drop, ap, ◌∙◌, arith}
use Rattle.cap_offer_spec.specs.Deciding.{decided_all}
use Rattle.cap_offer_spec.specs.Scanning.{at_address}
use Rattle.cap_closure_decide.specs.Noting.{certs_seen}
use Rattle.cap_offer.specs.Seeking.{sought_finish}
use Rattle.cap_offer.specs.Views.{lists_in, scan_view, sought_view}
use Rattle.cap_offer.proofs.Noted.{then-noted, front-lists, back-lists}
use Rattle.cap_offer.proofs.scanning.by_lists.Goals as goal

pub returns : goal.returns
returns c =
    let fin = sought_finish c.args.state.now (sought_view c.args.sought) c.args.number in
    let all = c.args.lists.now in
    let ls = lists_in all in
    let m = c.min.result in
    let ef = ap lists_in c.split_at.ensures.front ∙ front-lists all m (omega (arith, c.min.ensures)) (omega (arith, c.min.ensures)) (λ h. omega (arith, c.min.ensures)) in
    let eb = ap lists_in c.split_at.ensures.back ∙ back-lists all m (omega (arith, c.min.ensures)) (omega (arith, c.min.ensures)) (λ h. omega (arith, c.min.ensures)) in
    let h = rw ef at c.in_ok-certs.ensures in
    let k = rw eb at c.at_address.ensures in
    then-noted c.at_address.result scan_view c.args.notes.now c.decided_all.new.notes c.at_address.new.notes (certs_seen c.in_ok-certs.certs) (decided_all (take 2 ls)) (λ cs. at_address fin (drop 2 ls) cs) h k
