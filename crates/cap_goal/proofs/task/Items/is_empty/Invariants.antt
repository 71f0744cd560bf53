use Rattle.std.proofs.Common.{◌≡◌, drop}
use Rattle.cap_prog.specs.Program.{none}
use Rattle.cap_goal.specs.Views.{items_in}
use Rattle.cap_goal.proofs.task.Items.is_empty.Given as goal

abbrev pub invariant-loop-list : goal.invariant-loop-list
invariant-loop-list l = items_in l.fn.self.lists.items none ≡ items_in (drop l.list-index l.list-items) none
