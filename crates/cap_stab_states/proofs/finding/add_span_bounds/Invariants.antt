use Rattle.std.proofs.Common.{◌≡◌, map, fold, drop}
use Rattle.std.specs.List.{flat_map}
use Rattle.cap_goal_spec.specs.Candidates.{candidate_of, piece_bounds}
use Rattle.cap_stab_states.specs.Adding.{added}
use Rattle.cap_stab_states.specs.Views.{candidates_view}
use Rattle.cap_stab_states.proofs.finding.add_span_bounds.Given as goal

abbrev pub invariant-loop-piece : goal.invariant-loop-piece
invariant-loop-piece l =
    fold added (candidates_view l.all.items) (map candidate_of (flat_map (piece_bounds l.fact l.later) (drop l.piece-index l.pieces)))
    ≡ fold added (candidates_view l.fn.all.items) (map candidate_of (flat_map (piece_bounds l.fact l.later) l.pieces))
