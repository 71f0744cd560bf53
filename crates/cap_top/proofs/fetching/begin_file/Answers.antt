use Rattle.std.proofs.Common.{IfOk, sym, ap, subst}
use Rattle.cap_top_commands.specs.Beginning.{Begins}
use Rattle.cap_top.specs.Views.{fetched_view, BeginsAfter}
use Rattle.cap_top.proofs.Two.{begins_held}
use Rattle.cap_top.proofs.fetching.begin_file.Goals as goal

pub returns-in-Held : goal.returns-in-Held
returns-in-Held c =
    subst (λ x. IfOk c.begin.result (BeginsAfter c.args.name.now x)) (sym (ap fetched_view c.in-Held.is))
    (begins_held c.args.name.now c.in-Held.bytes.items c.begin.result
    (subst (λ bytes. IfOk c.begin.result (Begins bytes)) c.as_slice.ensures.value c.begin.ensures))
