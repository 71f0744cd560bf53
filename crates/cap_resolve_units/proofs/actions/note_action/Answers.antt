use Rattle.std.proofs.Common.{ap, ◌∙◌}
use Rattle.cap_parse_tree.specs.Views.{term_view}
use Rattle.cap_resolve_terms.specs.Views.{noted_view}
use Rattle.cap_resolve_parts.specs.Views.{comparisons_view, guards_view, words_view, word_seen}
use Rattle.cap_resolve_tables.specs.Tables.{numbered_view}
use Rattle.cap_resolve_tables.specs.Views.{occurrences_view}
use Rattle.cap_resolve_units.proofs.Acting.{action_is}
use Rattle.cap_resolve_units.proofs.actions.note_action.Goals as goal

pub returns : goal.returns
returns c =
    c.in_ok-note_action_with.ensures
    ∙ action_is (noted_view c.args.noted.now) (numbered_view c.args.region) (words_view c.args.parameters.now) (guards_view c.args.atoms.now) (term_view c.args.source.now) (term_view c.args.target.now) (comparisons_view c.args.when.now)
    (noted_view c.note_indices.new.noted) c.args.scope.now (word_seen c.whole_name.result) (word_seen c.whole_name-2.result) (occurrences_view c.as_slice-names.result.now)
    c.requires c.whole_name.ensures c.whole_name-2.ensures
    (ap occurrences_view c.as_slice-names.ensures.value ∙ c.in_ok-new.ensures)
    c.in_ok-note_indices.ensures
