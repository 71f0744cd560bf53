use Rattle.std.proofs.Common.{◌≡◌, map, fold, drop}
use Rattle.std.specs.List.{flat_map}
use Rattle.cap_prog.specs.Views.{action_view}
use Rattle.cap_goal_spec.specs.Candidates.{candidate_of}
use Rattle.cap_stab_states.specs.Adding.{added, action_bounds_among}
use Rattle.cap_stab_states.specs.Views.{candidates_view}
use Rattle.cap_stab_states.proofs.finding.add_action_bounds.Given as goal

abbrev pub invariant-loop-action : goal.invariant-loop-action
invariant-loop-action l =
    fold added (candidates_view l.all.items) (map candidate_of (flat_map (action_bounds_among l.count l.names l.later) (map action_view (drop l.action-index l.actions))))
    ≡ fold added (candidates_view l.fn.all.items) (map candidate_of (flat_map (action_bounds_among l.count l.names l.later) (map action_view l.actions)))
