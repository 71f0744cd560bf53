use Rattle.std.proofs.Common.{◌≡◌, ◌++◌, map, drop}
use Rattle.std.specs.List.{flat_map}
use Rattle.cap_lin.specs.Steps.{first_wide}
use Rattle.cap_goal_spec.specs.Roots.{written_row, written_steps}
use Rattle.cap_goal_roots.proofs.store.add_comparisons.Given as goal

abbrev pub invariant-loop-c : goal.invariant-loop-c
invariant-loop-c l = record {
  others : l.state ≡ record l.fn.state { rows = l.state.rows };
  rows : l.state.rows ++ map written_row (drop l.c-index l.comparisons) ≡ l.fn.state.rows ++ map written_row l.comparisons;
  steps : first_wide (flat_map written_steps (drop l.c-index l.comparisons)) ≡ first_wide (flat_map written_steps l.comparisons);
}
