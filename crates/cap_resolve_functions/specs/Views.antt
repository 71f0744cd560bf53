-- What is seen of what is built, and what the names of an assertion make of its items.
use Rattle.std.specs.Prelude.{List, map}
use Rattle.cap_prog.specs.declared.assertion.Item.{Item}
use Rattle.cap_prog.specs.Program.{PlainItem, Items, items_of}
use Rattle.cap_prog.specs.Program as plain
use Rattle.cap_prog.specs.Views.{item_view}
use Rattle.cap_parse_tree.specs.declared.word.Word.{Word}
use Rattle.cap_parse_tree.specs.Tree.{GuardTree, ItemTree, ItemTrees, AssertionTree, SideTree}
use Rattle.cap_resolve_spec.specs.Program.{item_program, items_program, assertion_program, side_program, guard_number, asked_program}
use Rattle.cap_resolve_spec.specs.Names.{NameScope, variable_of}
use Rattle.cap_resolve_spec.specs.Items.{NumberedRegion}
use Rattle.cap_resolve_tables.specs.Tables.{regions_of, types_of}
use Rattle.cap_resolve_functions.specs.declared.reading.Reading.{Reading}

abbrev pub items_seen : List Item → Items
items_seen is = items_of (map item_view is)

abbrev pub item_read : Reading → ItemTree → Items
item_read r i = item_program (regions_of r.regions.now) (types_of r.types) r.scope.now i

abbrev pub items_read : Reading → ItemTrees → Items
items_read r is = items_program (regions_of r.regions.now) (types_of r.types) r.scope.now is

abbrev pub assertion_read : Reading → AssertionTree → Items
assertion_read r a = assertion_program (regions_of r.regions.now) (types_of r.types) r.scope.now a

abbrev pub side_read : Reading → SideTree → Items
side_read r s = side_program (regions_of r.regions.now) (types_of r.types) r.scope.now s

-- an atom of a region that has a type
abbrev pub atom_built : NumberedRegion → NameScope → Word → GuardTree → PlainItem
atom_built k scope r g =
    plain.atom r.place (variable_of scope r.text) k.number (guard_number k g)
    (asked_program scope g)
