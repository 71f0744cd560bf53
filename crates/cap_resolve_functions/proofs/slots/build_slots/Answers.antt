use Rattle.cap_parse_tree.specs.Views.{behind_view, slot_view}
use Rattle.cap_resolve_functions.specs.Narrow.{IsNarrowPart}
use Rattle.cap_resolve_functions.proofs.Members.{member_at}
use Rattle.cap_resolve_functions.proofs.slots.build_slots.Goals as goal

pub build_slot-requires : goal.build_slot-requires
build_slot-requires c = member_at (IsNarrowPart c.args.scope.now) (behind_view slot_view) c.args.list.now c.loop-part.part-index c.part-item.result c.loop-part-test.true c.part-item.is c.requires
