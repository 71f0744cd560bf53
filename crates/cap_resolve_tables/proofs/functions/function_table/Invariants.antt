use Rattle.std.proofs.Common.{◌≡◌, ◌++◌, drop, map}
use Rattle.cap_lin.specs.declared.row.Sort.TheVariants.{Int}
use Rattle.cap_resolve_spec.specs.Names.{known_as}
use Rattle.cap_resolve_parts.specs.Views.{functions_view}
use Rattle.cap_resolve_tables.proofs.functions.function_table.Given as goal

abbrev pub invariant-loop-function : goal.invariant-loop-function
invariant-loop-function l =
    (functions_view l.list.items ++ functions_view (drop l.function-index l.functions) ≡ functions_view l.functions)
    × (l.names ≡ map (λ f. known_as Int f.now.name) l.list.items)
