use Rattle.std.proofs.Common.{◌≡◌, ◌∙◌, ◌+◌, ◌∷◌, fold, map, flat_map, drop, ap, sym, arith}
use Rattle.std.proofs.lemmas.Grind.{common_steps}
use Rattle.std.proofs.lemmas.List.Sums.{fold-append}
use Rattle.cap_parse_tree.specs.Views.{action_view}
use Rattle.cap_resolve_spec.specs.Finding.{note}
use Rattle.cap_resolve_terms.specs.Views.{noted_view}
use Rattle.cap_resolve_parts.specs.Views.{words_view}
use Rattle.cap_resolve_tables.specs.Tables.{numbered_view}
use Rattle.cap_resolve_units.specs.Regions.{one_action_part}
use Rattle.cap_resolve_units.proofs.types.note_actions.Goals as goal

pub loop-action-preserved : goal.loop-action-preserved
loop-action-preserved c =
    let actions = c.args.actions.now in
    let e : drop c.loop-action.action-index actions ≡ c.action-item.result ∷ drop (c.loop-action.action-index + 1) actions = grind (arith, common_steps) in
    let one = one_action_part (numbered_view c.args.region) (words_view c.args.parameters.now) in
    let rest = flat_map one (map action_view (drop (c.loop-action.action-index + 1) actions)) in
    ap (λ n. fold note n rest) c.in_ok-note_one_action.ensures
    ∙ (sym (fold-append note (noted_view c.loop-action.noted) (one (action_view c.action-item.result)) rest)
    ∙ (ap (λ xs. fold note (noted_view c.loop-action.noted) (flat_map one (map action_view xs))) (sym e)
    ∙ c.loop-action.invariant))
