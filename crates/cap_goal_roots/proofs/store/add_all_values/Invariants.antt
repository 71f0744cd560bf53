use Rattle.std.proofs.Common.{◌≡◌, ◌++◌, take}
use Rattle.cap_goal_roots.proofs.store.add_all_values.Given as goal

abbrev pub invariant-loop-value : goal.invariant-loop-value
invariant-loop-value l =
    l.state ≡ record l.fn.state { store = l.fn.state.store ++ take l.value-index l.values }
