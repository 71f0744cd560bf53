use Rattle.std.proofs.Common.{◌≡◌, ◌++◌, drop, map}
use Rattle.cap_prog.specs.Views as seen
use Rattle.cap_resolve_spec.specs.Program.{function_program}
use Rattle.cap_resolve_parts.specs.Views.{functions_view}
use Rattle.cap_resolve_tables.specs.Tables.{regions_of, functions_of}
use Rattle.cap_resolve_program.proofs.parts.build_functions.Given as goal

abbrev pub invariant-loop-function : goal.invariant-loop-function
invariant-loop-function l =
    map seen.function_view l.built.items ++ map (function_program (regions_of l.regions) (functions_of l.functions)) (functions_view (drop l.function-index l.functions.functions.items))
    ≡ map (function_program (regions_of l.regions) (functions_of l.functions)) (functions_of l.functions)
