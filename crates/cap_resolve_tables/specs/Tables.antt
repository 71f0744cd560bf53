-- What is seen of tables.
use Rattle.std.specs.Prelude.{List, [], ◌++◌, map, Option, Some, None, option_map}
use Rattle.std.specs.Borrow.{Bor}
use Rattle.cap_parse_tree.specs.declared.tree.Function.{Function}
use Rattle.cap_parse_tree.specs.Tree.{RegionTree, FunctionTree}
use Rattle.cap_parse_tree.specs.Views.{region_view, function_view}
use Rattle.cap_resolve_spec.specs.Items.{NumberedRegion, TypedName}
use Rattle.cap_resolve_parts.specs.Views.{functions_view}
use Rattle.cap_resolve_tables.specs.declared.tables.RegionType.{RegionType}
use Rattle.cap_resolve_tables.specs.declared.tables.RegionTable.{RegionTable}
use Rattle.cap_resolve_tables.specs.declared.tables.FunctionTable.{FunctionTable}
use Rattle.cap_resolve_tables.specs.declared.tables.Numbered.{Numbered}
use Rattle.cap_resolve_tables.specs.declared.tables.Typed.{Typed}
use Rattle.cap_resolve_tables.specs.declared.tables.TypedNames.{TypedNames}
use Rattle.cap_resolve_tables.specs.declared.tables.Types.{Types}

abbrev pub type_view : RegionType → RegionTree
type_view t = region_view t.tree.now

abbrev pub regions_of : RegionTable → List RegionTree
regions_of t = map type_view t.types.items

abbrev pub functions_of : FunctionTable → List FunctionTree
functions_of t = functions_view t.functions.items

abbrev pub numbered_view : Numbered → NumberedRegion
numbered_view n = record { number = n.number; region = type_view n.region.now }

abbrev pub numbered_seen : Option Numbered → Option NumberedRegion
numbered_seen n = option_map numbered_view n

abbrev pub typed_view : Typed → TypedName
typed_view t = record { name = t.name.now; type = numbered_view t.region }

abbrev pub typed_names : TypedNames → List TypedName
typed_names t = map typed_view t.list.items

abbrev pub outer_names : Option (Bor TypedNames) → List TypedName
outer_names None = []
outer_names (Some t) = typed_names t.now

abbrev pub types_of : Types → List TypedName
types_of t = outer_names t.outer ++ typed_names t.own.now

abbrev pub typed_list : List Typed → List TypedName
typed_list ts = map typed_view ts

abbrev pub typed_seen : Option Typed → Option TypedName
typed_seen t = option_map typed_view t

abbrev pub function_seen : Option (Bor Function) → Option FunctionTree
function_seen f = option_map (λ (x : Bor Function). function_view x.now) f
