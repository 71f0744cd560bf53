use Rattle.std.proofs.Common.{ℕ, pos, ◌<◌, ◌≤◌, ◌-◌, length, get_or}
use Rattle.cap_lin.proofs.term.first_from.Given as goal

abbrev pub invariant-loop-start : goal.invariant-loop-start
invariant-loop-start l = record {
  order : l.start ≤ l.end;
  bound : l.end ≤ length l.parts;
  below : (k : ℕ) → k < l.start → (get_or l.parts k (0, pos 0)).0 < l.low;
  above : (k : ℕ) → l.end ≤ k → k < length l.parts → l.low ≤ (get_or l.parts k (0, pos 0)).0;
}

abbrev pub decreases-loop-start : goal.decreases-loop-start
decreases-loop-start l = l.end - l.start
