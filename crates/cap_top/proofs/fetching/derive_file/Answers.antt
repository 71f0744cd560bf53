use Rattle.std.proofs.Common.{IfOk, sym, ap, subst}
use Rattle.cap_top_commands.specs.Answers.{After, IsDerived, IsOnly}
use Rattle.cap_top_commands.specs.Views.{output_view}
use Rattle.cap_top.specs.Views.{fetched_view}
use Rattle.cap_top.proofs.Saying.{said_held}
use Rattle.cap_top.proofs.fetching.derive_file.Goals as goal

pub returns-in-Held : goal.returns-in-Held
returns-in-Held c =
    subst (λ x. IfOk c.derive.result (λ o. IsOnly (After c.args.name.now x (IsDerived c.args.budget)) (output_view o)))
    (sym (ap fetched_view c.in-Held.is))
    (said_held c.args.name.now c.in-Held.bytes.items (IsDerived c.args.budget) c.derive.result
    (subst (λ bytes. IfOk c.derive.result (λ o. IsOnly (IsDerived c.args.budget bytes) (output_view o)))
    c.as_slice.ensures.value c.derive.ensures.answers))
