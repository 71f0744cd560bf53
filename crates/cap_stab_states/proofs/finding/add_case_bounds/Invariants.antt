use Rattle.std.proofs.Common.{◌≡◌, map, fold, drop}
use Rattle.std.specs.List.{flat_map}
use Rattle.cap_prog.specs.Views.{case_view}
use Rattle.cap_goal_spec.specs.Candidates.{candidate_of}
use Rattle.cap_stab_states.specs.Adding.{added, bounds_among}
use Rattle.cap_stab_states.specs.Views.{candidates_view}
use Rattle.cap_stab_states.proofs.finding.add_case_bounds.Given as goal

abbrev pub invariant-loop-case : goal.invariant-loop-case
invariant-loop-case l =
    fold added (candidates_view l.all.items) (map candidate_of (flat_map (λ c. bounds_among l.count l.names l.later c.state) (map case_view (drop l.case-index l.cases))))
    ≡ fold added (candidates_view l.fn.all.items) (map candidate_of (flat_map (λ c. bounds_among l.count l.names l.later c.state) (map case_view l.cases)))
