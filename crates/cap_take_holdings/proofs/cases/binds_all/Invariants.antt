use Rattle.std.proofs.Common.{◌≡◌, ◌+◌, ◌-◌, length}
use Rattle.std.specs.List.{list_all, range_with_len}
use Rattle.cap_rules_steps.specs.cap_goal_spec.Environments.{is_bound_by}
use Rattle.cap_prog.specs.Views.{items_view}
use Rattle.cap_take_holdings.proofs.cases.binds_all.Given as goal

abbrev pub invariant-loop-place : goal.invariant-loop-place
invariant-loop-place l = list_all (λ x. is_bound_by x (items_view l.case.items)) (range_with_len (l.region.params + l.place) (length l.case.names.items - l.place)) ≡ list_all (λ x. is_bound_by x (items_view l.case.items)) (range_with_len l.region.params (length l.case.names.items))
