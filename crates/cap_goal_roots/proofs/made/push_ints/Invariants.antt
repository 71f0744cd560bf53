use Rattle.std.proofs.Common.{◌≡◌, ◌++◌, ◌-◌, replicate}
use Rattle.cap_lin.specs.declared.row.Sort.TheVariants.{Int}
use Rattle.cap_goal_roots.proofs.made.push_ints.Given as goal

abbrev pub invariant-loop : goal.invariant-loop
invariant-loop l =
    l.sorts.items ++ replicate (l.count - l.counter) Int ≡ l.fn.sorts.items ++ replicate l.count Int
