use Rattle.std.proofs.Common.{arith, ap, sym, ◌∙◌}
use Rattle.cap_rules_steps.specs.cap_goal_spec.Environments.{is_bound_by}
use Rattle.cap_prog.specs.Views.{items_view}
use Rattle.cap_take_holdings.proofs.Names.{all-next}
use Rattle.cap_take_holdings.proofs.cases.binds_all.Goals as goal

pub loop-place-preserved : goal.loop-place-preserved
loop-place-preserved c = all-next (λ x. is_bound_by x (items_view c.args.case.now.items)) c.args.region.now.params c.loop-place.place _ c.is_bound_by.result _ (omega arith) c.is_bound_by.ensures c.if-not-is_bound_by.false c.loop-place.invariant
