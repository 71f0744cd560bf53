use Rattle.cap_parse_tree.specs.Views.{guard_view}
use Rattle.cap_resolve_functions.specs.Narrow.{IsNarrowGuard}
use Rattle.cap_resolve_functions.proofs.Members.{behind_in}
use Rattle.cap_resolve_functions.proofs.items.push_atoms.Goals as goal

pub push_atom-requires-in-loop-part : goal.push_atom-requires-in-loop-part
push_atom-requires-in-loop-part c = behind_in (IsNarrowGuard c.args.scope.now) guard_view c.args.guards.now.more.items c.deref-part-items.result.now c.loop-part.part-index c.part-item.result c.deref-part-items.ensures.value c.loop-part-test.true c.part-item.is c.requires.1
