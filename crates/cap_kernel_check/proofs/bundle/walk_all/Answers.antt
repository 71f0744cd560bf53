use Rattle.std.proofs.Common.{map}
use Rattle.cap_prog.specs.Views.{program_view}
use Rattle.cap_kernel_check_steps.specs.Views.{starts_view, tree_view, walk_view}
use Rattle.cap_kernel_check_steps.proofs.Checking.{end-concludes, error-concludes}
use Rattle.cap_kernel_check.proofs.bundle.walk_all.Goals as goal

pub returns-in-Ok : goal.returns-in-Ok
returns-in-Ok c =
    end-concludes (program_view c.args.program.now) (walk_view c.new-walk.result) (map tree_view c.args.trees.now) (starts_view c.args.starts.now) c.visit_starts.new.walk c.end.result c.new-walk.ensures c.in-Ok.ensures c.end.ensures

pub returns-in-Err : goal.returns-in-Err
returns-in-Err c =
    error-concludes (program_view c.args.program.now) (walk_view c.new-walk.result) (map tree_view c.args.trees.now) (starts_view c.args.starts.now) c.visit_starts.new.walk c.in-Err.error c.new-walk.ensures c.in-Err.ensures
