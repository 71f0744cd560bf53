use Rattle.std.proofs.Common.{◌≡◌, drop, fold, map, flat_map}
use Rattle.cap_resolve_spec.specs.Finding.{note}
use Rattle.cap_resolve_terms.specs.Views.{noted_view}
use Rattle.cap_resolve_parts.specs.Views.{words_view}
use Rattle.cap_parse_tree.specs.Views.{action_view}
use Rattle.cap_resolve_tables.specs.Tables.{numbered_view}
use Rattle.cap_resolve_units.specs.Regions.{one_action_part}
use Rattle.cap_resolve_units.proofs.types.note_actions.Given as goal

abbrev pub invariant-loop-action : goal.invariant-loop-action
invariant-loop-action l =
    fold note (noted_view l.noted) (flat_map (one_action_part (numbered_view l.region) (words_view l.parameters)) (map action_view (drop l.action-index l.actions)))
    ≡ fold note (noted_view l.fn.noted) (flat_map (one_action_part (numbered_view l.region) (words_view l.parameters)) (map action_view l.actions))
