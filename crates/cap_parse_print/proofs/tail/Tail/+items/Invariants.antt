use Rattle.std.proofs.Common.{◌≡◌, map, drop}
use Rattle.cap_parse_tree.specs.Spelling.{spell_items}
use Rattle.cap_parse_tree.specs.Views.{items_of, and_view}
use Rattle.cap_parse_print.proofs.tail.Tail.+items.Given as goal

abbrev pub invariant-items-loop-i : goal.invariant-items-loop-i
invariant-items-loop-i l =
    l.self ≡ spell_items (items_of (map and_view (drop l.i l.items))) l.fn.self
