use Rattle.std.proofs.Common.{arith}
use Rattle.cap_prog.specs.Views.{program_view}
use Rattle.cap_kernel_check_steps.specs.Views.{StartIsKept, start_view}
use Rattle.cap_kernel_check_steps.proofs.Walking.{each-at}
use Rattle.cap_kernel_check.proofs.bundle.visit_starts.Goals as goal

pub visit_start-requires : goal.visit_start-requires
visit_start-requires c =
    each-at (StartIsKept (program_view c.args.program.now)) start_view c.args.starts.now c.loop-index.index c.index-starts-index.result c.requires.kept (omega (arith, c.loop-index-test.true, c.requires.many)) c.index-starts-index.is
