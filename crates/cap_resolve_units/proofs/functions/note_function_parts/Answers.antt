use Rattle.std.proofs.Common.{◌∙◌}
use Rattle.cap_resolve_terms.specs.Views.{noted_view}
use Rattle.cap_resolve_parts.specs.Views.{clause_seen, parts_view, statements_view, words_view}
use Rattle.cap_resolve_tables.specs.Tables.{regions_of, functions_of, typed_names}
use Rattle.cap_resolve_units.proofs.Composed.{function_is}
use Rattle.cap_resolve_units.proofs.functions.note_function_parts.Goals as goal

pub returns : goal.returns
returns c =
    c.in_ok-note_with_types.ensures
    ∙ function_is (noted_view c.args.noted.now) (noted_view c.note_parameters.new.noted) (regions_of c.args.regions.now) (functions_of c.args.functions.now) (typed_names c.in_ok-types.types) (words_view c.args.parameters.now) (parts_view c.args.parts.now) (clause_seen c.args.postcondition) (statements_view c.args.statements.now)
    c.in_ok-types.ensures c.in_ok-note_parameters.ensures
