use Rattle.std.proofs.Common.{arith, None}
use Rattle.std.specs.Prelude.{if◌then◌else◌}
use Rattle.cap_rules_steps.specs.cap_goal_spec.Environments.{is_bound_by}
use Rattle.cap_prog.specs.Views.{items_view}
use Rattle.cap_take_holdings.proofs.Names.{names-next}
use Rattle.cap_take_holdings.proofs.cases.names_of.Goals as goal

pub loop-place-preserved : goal.loop-place-preserved
loop-place-preserved c =
    names-next (λ x. if is_bound_by x (items_view c.args.case.now.items) then None else c.args.other.now) c.args.region.now.params c.loop-place.place _ _ _ _ _ (omega arith) c.in_ok-push.ensures.items c.in_ok-name_given.ensures c.loop-place.invariant
