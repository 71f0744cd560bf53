use Rattle.cap_prog.specs.Views.{program_view}
use Rattle.cap_kernel_check_steps.specs.Views.{starts_view}
use Rattle.cap_kernel_check_steps.proofs.Starting.{all-kept}
use Rattle.cap_kernel_check.proofs.gather.starts.Goals as goal

pub returns-clause-kept : goal.returns-clause-kept
returns-clause-kept c =
    all-kept (program_view c.args.program.now) (λ v. starts_view v.items) c.gathered.result c.well_formed-2.ensures c.roots_are_kept.ensures c.gathered.ensures
