use Rattle.std.proofs.Common.{◌≡◌, ◌++◌, drop, map, filter_map}
use Rattle.cap_parse_tree.specs.Views.{tree_view, declaration_view}
use Rattle.cap_resolve_spec.specs.Parts.{function_in, functions}
use Rattle.cap_resolve_parts.specs.Views.{functions_view}
use Rattle.cap_resolve_tables.proofs.functions.functions_in.Given as goal

abbrev pub invariant-loop-declaration : goal.invariant-loop-declaration
invariant-loop-declaration l =
    functions_view l.found.items ++ filter_map function_in (map declaration_view (drop l.declaration-index l.declaration-items))
    ≡ functions (tree_view l.tree)
