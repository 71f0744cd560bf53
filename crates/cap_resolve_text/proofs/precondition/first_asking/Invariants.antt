use Rattle.std.proofs.Common.{◌≡◌, drop, map, filter, take}
use Rattle.cap_parse_tree.specs.Views.{assertion_view, and_view, items_of}
use Rattle.cap_resolve_spec.specs.Parts.{more_items, outer_items}
use Rattle.cap_resolve_spec.specs.Functions.{asks_for_more}
use Rattle.cap_resolve_text.proofs.precondition.first_asking.Given as goal

abbrev pub invariant-loop-and : goal.invariant-loop-and
invariant-loop-and l =
    take 1 (filter asks_for_more (more_items (items_of (map and_view (drop l.and-index l.and-items)))))
    ≡ take 1 (filter asks_for_more (outer_items (assertion_view l.assertion)))
