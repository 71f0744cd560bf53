use Rattle.std.proofs.Common.{map}
use Rattle.cap_lin.specs.Steps.{first_wide}
use Rattle.cap_fm_spec.specs.Leaf.{multipliers}
use Rattle.cap_fm_elimination.specs.Views.{origin_view, history_view}
use Rattle.cap_fm_elimination.specs.Way.{is_marked, rising_steps}
use Rattle.cap_fm_elimination.proofs.LeavesUp.{IsUp}
use Rattle.cap_fm_elimination.proofs.leaf.multipliers_on.Given as goal

abbrev pub invariant-loop-place : goal.invariant-loop-place
invariant-loop-place l =
    IsUp l.history (is_marked l.way) (multipliers (history_view l.history)) l.place l.terms.items (first_wide (rising_steps (is_marked l.way) (multipliers (history_view l.history)) 0 (map origin_view l.history)))
