use Rattle.std.proofs.Common.{◌≡◌, drop}
use Rattle.cap_prog.specs.Parts.{all_statements}
use Rattle.cap_prog.specs.Views.{block_view}
use Rattle.cap_search_trees.specs.Places.{numbered}
use Rattle.cap_search_trees.proofs.places.+numbers.Given as goal

abbrev pub invariant-place_in-loop-statement : goal.invariant-place_in-loop-statement
invariant-place_in-loop-statement l =
    numbered l.number (all_statements (block_view l.list))
    ≡ numbered l.number (all_statements (block_view (drop l.statement-index l.list)))
