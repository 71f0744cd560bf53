use Rattle.std.proofs.Common.{◌≢◌, Err, map, ap, ◌∙◌, subst}
use Rattle.cap_prog.specs.Views.{program_view}
use Rattle.cap_goal.specs.Trees.{bundle_view}
use Rattle.cap_goal.specs.Views.{choice_view}
use Rattle.cap_kernel_check_steps.specs.declared.error.CheckError.TheVariants.{OutOfMemory}
use Rattle.cap_kernel_check_steps.specs.Judges.{Judged}
use Rattle.cap_top_commands.proofs.Outlines.{says_outline, says_fault}
use Rattle.cap_top_commands.proofs.outlining.outline_lines.Goals as goal

pub returns-in_ok-outline-in-Ok : goal.returns-in_ok-outline-in-Ok
returns-in_ok-outline-in-Ok c bytes told =
    says_outline (program_view c.args.program.now) bytes
    c.judged_are_valid.ensures c.judgements_are_one.ensures c.valid_trees_are_one.ensures
    c.args.lines.trees (map choice_view c.args.lines.choices.items) (bundle_view c.in-Ok.bundle)
    told c.in-Ok.ensures.valid c.in-Ok.ensures.many
    (c.in-Ok.ensures.choices ∙ ap (map choice_view) c.deref.ensures.value)
    c.in_ok-outline-in-Ok.field-0.items c.in_ok-outline-in-Ok.ensures

pub returns-in-Err : goal.returns-in-Err
returns-in-Err c bytes told =
    says_fault (program_view c.args.program.now) bytes c.judged_are_valid.ensures c.judgements_are_one.ensures
    c.args.lines.trees (map choice_view c.args.lines.choices.items) c.in-Err.error c.rejected.result told
    (subst (λ cs. c.in-Err.error ≢ OutOfMemory → Judged (program_view c.args.program.now) c.args.lines.trees (map choice_view cs) (Err c.in-Err.error))
    c.deref.ensures.value c.in-Err.ensures.refused)
    c.rejected.ensures
