use Rattle.std.proofs.Common.{◌≡◌, ◌≤◌, length, take}
use Rattle.cap_prog.specs.Program.{none}
use Rattle.cap_goal.specs.Views.{items_in}
use Rattle.cap_search_trees.specs.Heads.{head_item}
use Rattle.cap_search_trees.proofs.leaf.first_item.Given as goal

abbrev pub invariant-loop-left : goal.invariant-loop-left
invariant-loop-left l = record {
  within : l.left ≤ length l.lists;
  head : head_item (items_in l.lists none) ≡ head_item (items_in (take l.left l.lists) none);
}

abbrev pub decreases-loop-left : goal.decreases-loop-left
decreases-loop-left l = l.left
