use Rattle.std.proofs.Common.{◌≡◌, ◌++◌, drop, map}
use Rattle.cap_prog.specs.Views.{item_view}
use Rattle.cap_parse_tree.specs.Tree.{parts_of}
use Rattle.cap_parse_tree.specs.Views.{guard_view, several_view}
use Rattle.cap_resolve_tables.specs.Tables.{numbered_view}
use Rattle.cap_resolve_functions.specs.Views.{atom_built}
use Rattle.cap_resolve_functions.proofs.Rests.{behind}
use Rattle.cap_resolve_functions.proofs.items.push_atoms.Given as goal

abbrev pub invariant-loop-part : goal.invariant-loop-part
invariant-loop-part l =
    map item_view l.items.items ++ map (atom_built (numbered_view l.type_) l.scope l.region) (behind guard_view (drop l.part-index l.part-items))
    ≡ map item_view l.fn.items.items ++ map (atom_built (numbered_view l.type_) l.scope l.region) (parts_of (several_view guard_view l.guards))
