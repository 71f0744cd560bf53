use Rattle.std.proofs.Common.{ap, ◌∙◌}
use Rattle.cap_resolve_spec.specs.Names.{whole_numbers}
use Rattle.cap_resolve_terms.specs.Views.{noted_view}
use Rattle.cap_resolve_parts.specs.Views.{clause_seen, parts_view, statements_view, words_view}
use Rattle.cap_resolve_tables.specs.Tables.{regions_of, functions_of, typed_names}
use Rattle.cap_resolve_tables.specs.Views.{occurrences_view}
use Rattle.cap_resolve_units.proofs.Composed.{fixed_is}
use Rattle.cap_resolve_units.proofs.functions.note_with_fixed.Goals as goal

pub returns : goal.returns
returns c =
    c.in_ok-note_with_locals.ensures
    ∙ fixed_is (noted_view c.args.noted.now) (regions_of c.args.regions.now) (functions_of c.args.functions.now) (typed_names c.args.types.now) (words_view c.args.parameters.now) (occurrences_view c.args.fixed.now) (parts_view c.args.parts.now) (clause_seen c.args.postcondition) (statements_view c.args.statements.now) (words_view c.as_slice-2.result.now) c.in_ok-given.given c.in_ok-destinations.destinations (words_view c.as_slice-3.result.now)
    (ap words_view c.as_slice-2.ensures.value ∙ c.in_ok-words.ensures)
    (c.in_ok-given.ensures ∙ ap whole_numbers (ap words_view c.as_slice.ensures.value ∙ c.in_ok-words.ensures))
    c.in_ok-destinations.ensures
    (ap words_view c.as_slice-3.ensures.value ∙ c.in_ok-locals.ensures)
