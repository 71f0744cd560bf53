use Rattle.cap_prog.specs.Views.{program_view}
use Rattle.cap_goal_spec.specs.Roots.{function_unit}
use Rattle.cap_kernel_check_steps.specs.Views.{starts_view}
use Rattle.cap_kernel_check_steps.proofs.Starting.{one-more}
use Rattle.cap_kernel_check_steps.proofs.gather.push_functions.Goals as goal

pub loop-number-preserved : goal.loop-number-preserved
loop-number-preserved c =
    one-more (program_view c.args.program.now) function_unit (starts_view c.args.starts.now.items) (starts_view c.loop-number.starts.items) (starts_view c.push_unit.new.starts.items) c.loop-number.number c.loop-number.invariant c.in_ok-push_unit.ensures
