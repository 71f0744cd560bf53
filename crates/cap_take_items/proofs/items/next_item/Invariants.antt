use Rattle.std.proofs.Common.{◌≡◌}
use Rattle.std.specs.Vec.{vec_len}
use Rattle.cap_prog.specs.Program.{none}
use Rattle.cap_goal.specs.Views.{items_in}
use Rattle.cap_take_items.proofs.items.next_item.Given as goal

abbrev pub invariant-loop-list : goal.invariant-loop-list
invariant-loop-list l = items_in l.fn.items.lists.items none ≡ items_in l.lists.items none

abbrev pub decreases-loop-list : goal.decreases-loop-list
decreases-loop-list l = vec_len l.lists
