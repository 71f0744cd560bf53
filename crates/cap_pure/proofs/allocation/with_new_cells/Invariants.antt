use Rattle.std.proofs.Common.{◌-◌}
use Rattle.cap_rules.specs.Rules.{with_new_cells}
use Rattle.cap_rules_steps.proofs.Walking.{Leads}
use Rattle.cap_pure.proofs.allocation.with_new_cells.Given as goal

abbrev pub invariant-loop-step : goal.invariant-loop-step
invariant-loop-step l = Leads (with_new_cells l.state l.base l.step (l.count - l.step)) (with_new_cells l.fn.state l.base 0 l.count)
