use Rattle.std.proofs.Common.{◌≢◌, Err, map, ap, ◌∙◌, subst}
use Rattle.cap_prog.specs.Views.{program_view}
use Rattle.cap_goal.specs.Trees.{bundle_view}
use Rattle.cap_goal.specs.Views.{choice_view}
use Rattle.cap_kernel_check_steps.specs.declared.error.CheckError.TheVariants.{OutOfMemory}
use Rattle.cap_kernel_check_steps.specs.Judges.{Judged}
use Rattle.cap_top_accounts.proofs.Choices.{has_schedule, says_owners, says_fault}
use Rattle.cap_top_accounts.proofs.owning.owners_along.Goals as goal

pub returns-in-Ok : goal.returns-in-Ok
returns-in-Ok c bytes reads =
    says_owners (program_view c.args.program.now) c.args.lines.trees (map choice_view c.args.lines.choices.items) bytes
    c.judged_are_valid.ensures c.judgements_are_one.ensures c.valid_trees_are_one.ensures
    (bundle_view c.in-Ok.bundle) c.in-Ok.ensures.valid c.in-Ok.ensures.many
    (c.in-Ok.ensures.choices ∙ ap (map choice_view) c.deref.ensures.value)
    c.args.schedule.now reads c.requires.arguments c.owners_by.result c.owners_by.ensures

pub returns-in-Err : goal.returns-in-Err
returns-in-Err c bytes reads =
    says_fault (program_view c.args.program.now) c.args.lines.trees (map choice_view c.args.lines.choices.items) bytes
    c.judged_are_valid.ensures c.judgements_are_one.ensures c.in-Err.error c.rejected.result
    (subst (λ cs. c.in-Err.error ≢ OutOfMemory → Judged (program_view c.args.program.now) c.args.lines.trees (map choice_view cs) (Err c.in-Err.error))
    c.deref.ensures.value c.in-Err.ensures.refused)
    (has_schedule (program_view c.args.program.now) bytes c.args.schedule.now reads c.requires.arguments)
    c.rejected.ensures
