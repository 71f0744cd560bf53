use Rattle.std.proofs.Common.{◌≡◌, ◌++◌, drop, map}
use Rattle.cap_parse_tree.specs.Views.{assertion_view, and_view, items_of}
use Rattle.cap_resolve_spec.specs.Parts.{assertion_parts, items_parts}
use Rattle.cap_resolve_parts.specs.Views.{parts_view}
use Rattle.cap_resolve_parts.proofs.items.+items.Given as goal

abbrev pub invariant-push_assertion-loop-and : goal.invariant-push_assertion-loop-and
invariant-push_assertion-loop-and l =
    parts_view l.parts.items ++ items_parts l.inside (items_of (map and_view (drop l.and-index l.and-items)))
    ≡ parts_view l.fn.parts.items ++ assertion_parts l.inside (assertion_view l.assertion)
