use Rattle.std.proofs.Common.{ap, ◌∙◌}
use Rattle.cap_parse_tree.specs.Views.{block_view}
use Rattle.cap_resolve_spec.specs.Parts.{block_parts, clause_parts}
use Rattle.cap_resolve_terms.specs.Views.{noted_view}
use Rattle.cap_resolve_parts.specs.Views.{clause_seen, parts_view, words_view}
use Rattle.cap_resolve_tables.specs.Tables.{regions_of, functions_of}
use Rattle.cap_resolve_units.proofs.Joined.{with_parts}
use Rattle.cap_resolve_units.proofs.whole.note_with_parameters.Goals as goal

pub returns : goal.returns
returns c =
    with_parts (noted_view c.args.noted.now) (noted_view c.note_with_items.new.noted) (regions_of c.args.regions.now) (functions_of c.args.functions.now) (words_view c.args.parameters.now) (parts_view c.as_slice-items.result.now) (clause_parts (clause_seen c.args.precondition)) (clause_seen c.args.postcondition) (block_parts (block_view c.args.body.now))
    (ap parts_view c.as_slice-items.ensures.value ∙ c.in_ok-parts.ensures)
    c.in_ok-note_with_items.ensures
