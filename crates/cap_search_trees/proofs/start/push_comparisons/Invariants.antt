use Rattle.std.proofs.Common.{◌≡◌, ◌++◌, map, drop}
use Rattle.cap_prog.specs.Program.{items_of}
use Rattle.cap_prog.specs.Views.{item_view}
use Rattle.cap_search_spec.specs.Starts.{comparisons}
use Rattle.cap_search_trees.specs.Starts.{claims_view}
use Rattle.cap_search_trees.proofs.start.push_comparisons.Given as goal

abbrev pub invariant-loop-item : goal.invariant-loop-item
invariant-loop-item l =
    claims_view l.claims.items ++ comparisons (items_of (map item_view (drop l.item-index l.items)))
    ≡ claims_view l.fn.claims.items ++ comparisons (items_of (map item_view l.items))
