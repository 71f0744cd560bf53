use Rattle.std.proofs.Common.{sym, ap, subst}
use Rattle.std.specs.Prelude.{IfOk}
use Rattle.cap_offer_spec.specs.Deciding.{Noted}
use Rattle.cap_offer_spec.specs.Scanning.{Scan, scanned_cell}
use Rattle.cap_closure_decide.specs.Noting.{Adds}
use Rattle.cap_offer.specs.Seeking.{sought_finish, sought_address}
use Rattle.cap_offer.specs.Views.{scan_view, sought_view}
use Rattle.cap_offer.proofs.scanning.scan_cell.Goals as goal

pub returns-in-Ok : goal.returns-in-Ok
unfolding scanned_cell
returns-in-Ok c =
    let s = c.args.goal.now.state in
    let x = sought_view c.args.sought in
    let e = ap (scanned_cell (sought_finish s x c.args.number) (sought_address s x c.args.cell.now)) c.in-Ok.ensures in
    let h = rw c.deref.ensures.value at c.by_lists.ensures in
    subst (λ (m : Noted Scan). IfOk c.by_lists.result (λ scan. Adds c.args.notes.now c.by_lists.new.notes (scan_view scan) m)) (sym e) h
