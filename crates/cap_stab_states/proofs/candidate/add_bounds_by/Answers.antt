use Rattle.std.proofs.Common.{[], map, fold, ap, sym, ◌∙◌}
use Rattle.cap_goal_spec.specs.Candidates.{candidate_of, bounds}
use Rattle.cap_stab_states.specs.Adding.{added}
use Rattle.cap_stab_states.specs.Views.{candidate_view, candidates_view}
use Rattle.cap_stab_states.proofs.Bounds.{known-among, past-either, ok-then}
use Rattle.cap_stab_states.proofs.candidate.add_bounds_by.Goals as goal

pub returns-in-Ok : goal.returns-in-Ok
returns-in-Ok c =
    let a = c.args in
    let all = candidates_view a.all.now.items in
    ok-then c.add_bounds.result (candidates_view c.add_bounds.new.all.items) (fold added all (map candidate_of (bounds a.later.now [] c.in-Ok.value))) _ (known-among all a.count a.names.now a.later.now a.term.now c.in-Ok.value (sym c.if-not-is_over_first.ensures) c.in-Ok.ensures.0 c.in-Ok.ensures.1) c.add_bounds.ensures

pub returns-in_ok-past-in-Err-2 : goal.returns-in_ok-past-in-Err-2
returns-in_ok-past-in-Err-2 c =
    let a = c.args in
    let all = candidates_view a.all.now.items in
    let first = candidate_view c.in_ok-past-in-Err.field-0 in
    let second = candidate_view c.in_ok-past-in-Err-2.field-0 in
    ok-then c.add-in-Err.result (candidates_view c.add-in-Err.new.all.items) (added (candidates_view c.add.new.all.items) second) _ (ap (λ l. added l second) c.in_ok-add-in-Err.ensures ∙ past-either all a.count a.names.now a.later.now a.term.now c.in-Err.error first second (sym c.if-not-is_over_first.ensures) c.in-Err.ensures c.in_ok-past-in-Err.ensures c.in_ok-past-in-Err-2.ensures) c.add-in-Err.ensures
