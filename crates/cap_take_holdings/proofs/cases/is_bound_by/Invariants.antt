use Rattle.std.proofs.Common.{◌≡◌, drop}
use Rattle.cap_rules_steps.specs.cap_goal_spec.Environments.{is_bound_by}
use Rattle.cap_prog.specs.Views.{items_view}
use Rattle.cap_take_holdings.proofs.Names.{bound-from}
use Rattle.cap_take_holdings.proofs.cases.is_bound_by.Given as goal

abbrev pub invariant-loop-item : goal.invariant-loop-item
invariant-loop-item l = bound-from l.name (drop l.item-index l.assertion.items.items) ≡ is_bound_by l.name (items_view l.assertion)
