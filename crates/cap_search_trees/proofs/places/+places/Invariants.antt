use Rattle.std.proofs.Common.{◌≡◌, ◌++◌, drop}
use Rattle.cap_prog.specs.Views.{block_view, function_view}
use Rattle.cap_search_trees.specs.Places.{block_places}
use Rattle.cap_search_trees.proofs.places.+places.Given as goal

abbrev pub invariant-push_places-loop-statement : goal.invariant-push_places-loop-statement
invariant-push_places-loop-statement l =
    let f = function_view l.function in
    l.places.items ++ block_places f (block_view (drop l.statement-index l.list))
    ≡ l.fn.places.items ++ block_places f (block_view l.list)
