use Rattle.std.proofs.Common.{IfOk, sym, ap, subst}
use Rattle.cap_top_accounts.specs.Listing.{Lists}
use Rattle.cap_top.specs.Views.{fetched_view, ListsAfter}
use Rattle.cap_top.proofs.Three.{lists_held}
use Rattle.cap_top.proofs.fetching.list_file.Goals as goal

pub returns-in-Held : goal.returns-in-Held
returns-in-Held c =
    subst (λ x. IfOk c.list.result (ListsAfter c.args.name.now x)) (sym (ap fetched_view c.in-Held.is))
    (lists_held c.args.name.now c.in-Held.bytes.items c.list.result
    (subst (λ bytes. IfOk c.list.result (Lists bytes)) c.as_slice.ensures.value c.list.ensures))
