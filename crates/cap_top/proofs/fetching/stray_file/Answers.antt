use Rattle.std.proofs.Common.{IfOk, sym, ap, subst}
use Rattle.cap_top_commands.specs.Answers.{After, IsStrayed, IsOnly}
use Rattle.cap_top_commands.specs.Views.{output_view}
use Rattle.cap_top.specs.Views.{fetched_view}
use Rattle.cap_top.proofs.Saying.{said_held}
use Rattle.cap_top.proofs.fetching.stray_file.Goals as goal

pub returns-in-Held : goal.returns-in-Held
returns-in-Held c =
    subst (λ x. IfOk c.stray.result (λ o. IsOnly (After c.args.name.now x (IsStrayed c.args.number c.args.count)) (output_view o)))
    (sym (ap fetched_view c.in-Held.is))
    (said_held c.args.name.now c.in-Held.bytes.items (IsStrayed c.args.number c.args.count) c.stray.result
    (subst (λ bytes. IfOk c.stray.result (λ o. IsOnly (IsStrayed c.args.number c.args.count bytes) (output_view o)))
    c.as_slice.ensures.value c.stray.ensures))
