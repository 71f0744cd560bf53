use Rattle.std.proofs.Common.{ap, ◌∙◌}
use Rattle.cap_parse_tree.specs.Views.{block_view}
use Rattle.cap_resolve_spec.specs.Parts.{block_parts}
use Rattle.cap_resolve_terms.specs.Views.{noted_view}
use Rattle.cap_resolve_parts.specs.Views.{clause_seen, parts_view, statements_view, words_view}
use Rattle.cap_resolve_tables.specs.Tables.{regions_of, functions_of}
use Rattle.cap_resolve_units.proofs.Joined.{with_statements}
use Rattle.cap_resolve_units.proofs.whole.note_with_items.Goals as goal

pub returns : goal.returns
returns c =
    with_statements (noted_view c.args.noted.now) (noted_view c.note_function_parts.new.noted) (regions_of c.args.regions.now) (functions_of c.args.functions.now) (words_view c.args.parameters.now) (parts_view c.args.parts.now) (clause_seen c.args.postcondition) (statements_view c.as_slice-all.result.now) (block_parts (block_view c.args.body.now))
    (ap statements_view c.as_slice-all.ensures.value ∙ c.in_ok-statements.ensures)
    c.in_ok-note_function_parts.ensures
