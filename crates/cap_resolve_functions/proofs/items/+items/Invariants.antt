use Rattle.std.proofs.Common.{◌≡◌, drop}
use Rattle.cap_prog.specs.Program.{append_items}
use Rattle.cap_parse_tree.specs.Views.{assertion_view}
use Rattle.cap_resolve_functions.specs.Views.{items_seen, items_read, assertion_read}
use Rattle.cap_resolve_functions.proofs.Rests.{ands_view}
use Rattle.cap_resolve_functions.proofs.items.+items.Given as goal

abbrev pub invariant-push_items-loop-and : goal.invariant-push_items-loop-and
invariant-push_items-loop-and l =
    append_items (items_seen l.items.items) (items_read l.reading (ands_view (drop l.and-index l.and-items)))
    ≡ append_items (items_seen l.fn.items.items) (assertion_read l.reading (assertion_view l.assertion))
