use Rattle.std.proofs.Common.{ap, ◌∙◌, filter}
use Rattle.cap_resolve_spec.specs.Items.{is_bound}
use Rattle.cap_resolve_scopes.specs.Lists.{new_in}
use Rattle.cap_resolve_terms.specs.Views.{noted_view}
use Rattle.cap_resolve_parts.specs.Views.{clause_seen, parts_view, statements_view, words_view}
use Rattle.cap_resolve_tables.specs.Tables.{regions_of, functions_of, typed_names}
use Rattle.cap_resolve_tables.specs.Views.{occurrences_view}
use Rattle.cap_resolve_units.proofs.Composed.{typed_is}
use Rattle.cap_resolve_units.proofs.functions.note_with_types.Goals as goal

pub returns : goal.returns
returns c =
    let n = c.in_ok-new.ensures ∙ ap (λ s. new_in s (typed_names c.args.types.now) (parts_view c.args.parts.now)) c.in_ok-scope.ensures in
    c.in_ok-note_with_fixed.ensures
    ∙ typed_is (noted_view c.args.noted.now) (noted_view c.note_new.new.noted) (regions_of c.args.regions.now) (functions_of c.args.functions.now) (typed_names c.args.types.now) (words_view c.args.parameters.now) (occurrences_view c.as_slice.result.now) (occurrences_view c.as_slice-names.result.now) (parts_view c.args.parts.now) (clause_seen c.args.postcondition) (statements_view c.args.statements.now)
    (ap occurrences_view c.as_slice.ensures.value ∙ n)
    (ap occurrences_view c.as_slice-names.ensures.value ∙ (c.in_ok-fixed.ensures ∙ ap (filter is_bound) (ap occurrences_view c.as_slice-2.ensures.value ∙ n)))
    c.note_new.ensures
