use Rattle.std.proofs.Common.{◌≡◌, ◌++◌, take}
use Rattle.cap_goal_roots.proofs.store.add_all_sorts.Given as goal

abbrev pub invariant-loop-sort : goal.invariant-loop-sort
invariant-loop-sort l =
    l.state ≡ record l.fn.state { sorts = l.fn.state.sorts ++ take l.sort-index l.sorts }
