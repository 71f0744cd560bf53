use Rattle.std.proofs.Common.{◌≡◌, drop}
use Rattle.cap_prog.specs.Program.{none}
use Rattle.cap_goal.specs.Views.{items_in}
use Rattle.cap_owners_passes.specs.Views.{first_item, item_seen}
use Rattle.cap_owners_passes.proofs.Firsts.{first_in}
use Rattle.cap_owners_passes.proofs.ahead.first_item.Given as goal

abbrev pub invariant-loop-list : goal.invariant-loop-list
invariant-loop-list l = first_item (items_in l.list-items none) ≡ first_in (drop l.list-index l.list-items) (item_seen l.first)
