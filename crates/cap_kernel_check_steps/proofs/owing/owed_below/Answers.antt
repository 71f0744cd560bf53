use Rattle.std.proofs.Common.{◌≡◌, List, [], ap, map}
use Rattle.cap_goal.specs.declared.goal.Goal.{Goal}
use Rattle.cap_goal.specs.Views.{goal_view}
use Rattle.cap_rules_steps.specs.Goals.{goals_view}
use Rattle.cap_kernel_check_steps.specs.Owed.{PlainDebt, owes}
use Rattle.cap_kernel_check_steps.proofs.Stacks.{none-left, owed-all}
use Rattle.cap_kernel_check_steps.proofs.owing.owed_below.Goals as goal

pub returns : goal.returns
returns c =
    let rest = c.loop-goal.goal-iterator.rest in
    let below : List Goal → List PlainDebt = λ gs. map (owes c.args.above) (map goal_view gs) in
    let none : rest.items ≡ [] = none-left rest.items rest.len rest.ok.0 c.in-None.ensures.steps.0 in
    owed-all c.loop-goal.debts.items c.reverse.new.self.items (below rest.items) (map (owes c.args.above) (goals_view c.args.goals)) c.reverse.ensures.items (ap below none) c.loop-goal.invariant
