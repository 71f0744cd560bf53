use Rattle.cap_prog.specs.Views.{program_view}
use Rattle.cap_goal.specs.Views.{unit_view}
use Rattle.cap_goal_roots.specs.Views.{roots_view}
use Rattle.cap_kernel_check_steps.proofs.Starting.{unit-open, unit-barred}
use Rattle.cap_kernel_check_steps.proofs.gather.push_unit.Goals as goal

pub returns-in-Ok : goal.returns-in-Ok
returns-in-Ok c =
    rw (unit-open (program_view c.args.program.now) (unit_view c.args.unit) (roots_view c.in-Ok.roots.items) c.in-Ok.ensures.exact.0 c.in-Ok.ensures.exact.1) at c.push_open.ensures

pub returns-in-Err-Wide : goal.returns-in-Err-Wide
returns-in-Err-Wide c =
    let wide = rw c.in-Err-Wide.field-0-is at c.in-Err-Wide.ensures.exact in
    rw (unit-barred (program_view c.args.program.now) (unit_view c.args.unit) (c.in-Err-Wide.field-0-0, c.in-Err-Wide.field-0-1) wide) at (rw c.case_count.ensures at c.push_barred.ensures)
