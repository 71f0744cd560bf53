use Rattle.std.proofs.Common.{◌≡◌, ◌++◌, map, drop}
use Rattle.cap_prog.specs.Program.{items_of}
use Rattle.cap_prog.specs.Views.{item_view}
use Rattle.cap_search_spec.specs.Starts.{addresses}
use Rattle.cap_search_trees.specs.Starts.{terms_lent}
use Rattle.cap_search_trees.proofs.start.addresses.Given as goal

abbrev pub invariant-loop-item : goal.invariant-loop-item
invariant-loop-item l =
    terms_lent l.addresses.items ++ addresses (items_of (map item_view (drop l.item-index l.items)))
    ≡ addresses (items_of (map item_view l.items))
