use Rattle.std.proofs.Common.{IfOk, map, sym, ap, subst}
use Rattle.cap_prog.specs.Views.{program_view}
use Rattle.cap_goal.specs.Views.{choice_view}
use Rattle.cap_top_commands.specs.Answers.{After, IsOnly}
use Rattle.cap_top_commands.specs.Owners.{IsOwners}
use Rattle.cap_top_commands.specs.Views.{output_view}
use Rattle.cap_top.specs.Views.{fetched_view}
use Rattle.cap_top.proofs.Saying.{said_held}
use Rattle.cap_top.proofs.fetching.owners_file.Goals as goal

pub returns-in-Held : goal.returns-in-Held
returns-in-Held c =
    let said = IsOwners (program_view c.args.program.now) c.args.lines.trees (map choice_view c.args.lines.choices.items) in
    subst (λ x. IfOk c.owners.result (λ o. IsOnly (After c.args.name.now x said) (output_view o)))
    (sym (ap fetched_view c.in-Held.is))
    (said_held c.args.name.now c.in-Held.bytes.items said c.owners.result
    (subst (λ bytes. IfOk c.owners.result (λ o. IsOnly (said bytes) (output_view o)))
    c.as_slice.ensures.value c.owners.ensures))
