use Rattle.std.proofs.Common.{map, take}
use Rattle.std.specs.List.{AllZip}
use Rattle.cap_prog.specs.Views.{program_view}
use Rattle.cap_kernel_check_steps.specs.Starts.{StartDerives}
use Rattle.cap_kernel_check_steps.specs.Owed.{preorder}
use Rattle.cap_kernel_check_steps.specs.Views.{starts_view, tree_view}
use Rattle.cap_kernel_check_steps.specs.Growths.{PassesOver}
use Rattle.cap_kernel_check_steps.specs.GrowthViews.{preorder_view}
use Rattle.cap_kernel_check_steps.proofs.growth.grow_at_roots.Given as goal

-- the trees of the roots so far
abbrev pub invariant-loop-start : goal.invariant-loop-start
invariant-loop-start l = record {
  derived : AllZip (StartDerives (program_view l.program)) (map tree_view l.trees.items) (starts_view (take l.start-index l.starts));
  passes : PassesOver (preorder_view l.fn.choices) (preorder (map tree_view l.trees.items)) (preorder_view l.choices);
}
