use Rattle.std.proofs.Common.{◌∙◌, sym, ap, subst}
use Rattle.cap_parse_tree.specs.Views.{function_view}
use Rattle.cap_resolve_parts.specs.Views.{words_view, statements_view}
use Rattle.cap_resolve_tables.specs.Tables.{regions_of, functions_of, typed_names}
use Rattle.cap_resolve_tables.specs.Views.{occurrences_view}
use Rattle.cap_resolve_functions.specs.Functions.{locals_in}
use Rattle.cap_resolve_functions.specs.Narrow.{IsNarrowBuilt}
use Rattle.cap_resolve_functions.proofs.FunctionNames.{named_of}
use Rattle.cap_resolve_functions.proofs.whole.build_stated.Goals as goal

pub build_named-requires : goal.build_named-requires
build_named-requires c =
    subst (λ ls. IsNarrowBuilt (regions_of c.args.regions.now) (functions_of c.args.functions.now) (typed_names c.args.types.now) (named_of (words_view c.args.parameters.now) ls (occurrences_view c.args.fixed.now) c.in_ok-destinations.destinations) (function_view c.args.function.now))
    (sym (ap words_view c.as_slice-locals.ensures.value ∙ c.in_ok-found.ensures))
    (subst (λ ds. IsNarrowBuilt (regions_of c.args.regions.now) (functions_of c.args.functions.now) (typed_names c.args.types.now) (named_of (words_view c.args.parameters.now) (locals_in ds (words_view c.args.parameters.now) (occurrences_view c.args.fixed.now) (statements_view c.args.statements.now)) (occurrences_view c.args.fixed.now) ds) (function_view c.args.function.now))
    (sym c.in_ok-destinations.ensures) c.requires)
