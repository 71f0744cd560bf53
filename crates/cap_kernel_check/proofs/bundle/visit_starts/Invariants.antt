use Rattle.std.proofs.Common.{drop, map}
use Rattle.cap_prog.specs.Views.{program_view}
use Rattle.cap_kernel_check_steps.specs.Views.{starts_view, tree_view, walk_view}
use Rattle.cap_kernel_check_steps.specs.Walks.{Outcome, VisitsStarts}
use Rattle.cap_kernel_check.proofs.bundle.visit_starts.Given as goal

-- what the walk over the trees that remain makes is what it makes of all
abbrev pub invariant-loop-index : goal.invariant-loop-index
invariant-loop-index l =
    (o : Outcome) →
    VisitsStarts (program_view l.program) (walk_view l.walk) (map tree_view (drop l.index l.trees)) (starts_view (drop l.index l.starts)) o →
    VisitsStarts (program_view l.program) (walk_view l.fn.walk) (map tree_view l.trees) (starts_view l.starts) o
