use Rattle.std.proofs.Common.{◌≡◌, ◌≤◌, length, take}
use Rattle.cap_prog.specs.Program.{done}
use Rattle.cap_goal.specs.Views.{block_in}
use Rattle.cap_search_trees.specs.Heads.{head_statement}
use Rattle.cap_search_trees.proofs.leaf.first_statement.Given as goal

abbrev pub invariant-loop-left : goal.invariant-loop-left
invariant-loop-left l = record {
  within : l.left ≤ length l.lists;
  head : head_statement (block_in l.lists done) ≡ head_statement (block_in (take l.left l.lists) done);
}

abbrev pub decreases-loop-left : goal.decreases-loop-left
decreases-loop-left l = l.left
