use Rattle.std.proofs.Common.{◌≡◌, ◌++◌, map}
use Rattle.std.specs.Vec.Iter.{into_iter_items}
use Rattle.cap_goal_roots.specs.Views.{roots_view}
use Rattle.cap_kernel_check_steps.specs.Starts.{start_of}
use Rattle.cap_kernel_check_steps.specs.Views.{starts_view}
use Rattle.cap_kernel_check_steps.proofs.gather.push_open.Given as goal

-- those so far, and those of the roots that remain
abbrev pub invariant-loop-root : goal.invariant-loop-root
invariant-loop-root l =
    starts_view l.starts.items ++ map start_of (roots_view (into_iter_items l.root-iterator))
    ≡ starts_view l.fn.starts.items ++ map start_of (roots_view l.fn.roots.items)
