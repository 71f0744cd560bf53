use Rattle.std.proofs.Common.{◌≡◌, ◌++◌, map}
use Rattle.std.specs.Vec.Iter.{into_iter_items}
use Rattle.cap_goal.specs.Views.{goal_view}
use Rattle.cap_kernel_check_steps.specs.Debts.{debt_view}
use Rattle.cap_kernel_check_steps.specs.Owed.{owes}
use Rattle.cap_kernel_check_steps.proofs.owing.owed_below.Given as goal

-- what is owed so far, and for the goals that remain
abbrev pub invariant-loop-goal : goal.invariant-loop-goal
invariant-loop-goal l =
    map debt_view l.debts.items
    ++ map (owes l.above) (map goal_view (into_iter_items l.goal-iterator))
    ≡ map (owes l.above) (map goal_view l.fn.goals.items)
