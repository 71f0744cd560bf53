use Rattle.std.proofs.Common.{◌≡◌, ◌+◌, ◌-◌, ◌++◌, length, map}
use Rattle.std.specs.Prelude.{if◌then◌else◌, Option, None}
use Rattle.std.specs.List.{range_with_len}
use Rattle.cap_rules_steps.specs.cap_goal_spec.Environments.{is_bound_by}
use Rattle.cap_prog.specs.Views.{items_view}
use Rattle.cap_take_holdings.proofs.cases.names_of.Given as goal

abbrev pub invariant-loop-place : goal.invariant-loop-place
invariant-loop-place l = l.names.items ++ map (λ x. if is_bound_by x (items_view l.case.items) then None else l.other) (range_with_len (l.region.params + l.place) (length l.case.names.items - l.place)) ≡ map (λ x. if is_bound_by x (items_view l.case.items) then None else l.other) (range_with_len l.region.params (length l.case.names.items))
