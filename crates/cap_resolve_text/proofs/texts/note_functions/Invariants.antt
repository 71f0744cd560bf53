use Rattle.std.proofs.Common.{◌≡◌, drop, fold, flat_map}
use Rattle.cap_resolve_spec.specs.Finding.{note}
use Rattle.cap_resolve_spec.specs.Functions.{function_findings}
use Rattle.cap_resolve_terms.specs.Views.{noted_view}
use Rattle.cap_resolve_parts.specs.Views.{functions_view}
use Rattle.cap_resolve_tables.specs.Tables.{regions_of, functions_of}
use Rattle.cap_resolve_text.proofs.texts.note_functions.Given as goal

abbrev pub invariant-loop-function : goal.invariant-loop-function
invariant-loop-function l =
    fold note (noted_view l.noted) (flat_map (function_findings (regions_of l.regions) (functions_of l.functions)) (functions_view (drop l.function-index l.function-items)))
    ≡ fold note (noted_view l.fn.noted) (flat_map (function_findings (regions_of l.regions) (functions_of l.functions)) (functions_of l.functions))
