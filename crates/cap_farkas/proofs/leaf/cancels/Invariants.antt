use Rattle.std.proofs.Common.{ℕ, ◌<◌, ◌-◌}
use Rattle.cap_farkas.specs.Farkas.{Cancels}
use Rattle.cap_farkas.specs.System.{all_rows}
use Rattle.cap_farkas.proofs.leaf.cancels.Given as goal

abbrev pub invariant-loop-variable : goal.invariant-loop-variable
invariant-loop-variable l = (x : ℕ) → x < l.low → Cancels (all_rows l.rows l.appended) l.leaf x

abbrev pub decreases-loop-variable : goal.decreases-loop-variable
decreases-loop-variable l = 4294967296 - l.low
