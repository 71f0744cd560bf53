use Rattle.std.proofs.Common.{◌≡◌, ◌++◌, ◌-◌}
use Rattle.cap_goal_spec.specs.Terms.{variables_from}
use Rattle.cap_goal_spec.specs.Environments.{bound}
use Rattle.cap_goal_roots.proofs.made.bind_variables.Given as goal

abbrev pub invariant-loop-number : goal.invariant-loop-number
invariant-loop-number l =
    l.env.items ++ bound (variables_from l.number (l.number-end - l.number))
    ≡ l.fn.env.items ++ bound (variables_from l.first l.count)
