use Rattle.std.proofs.Common.{ℕ, pos, ◌<◌, ◌≤◌, ◌-◌, ◌<ℤ◌, ◌≤ℤ◌, length, get_or}
use Rattle.cap_owners_fill.specs.Views.{numbers}
use Rattle.cap_owners_fill.proofs.regions.Regions.place_of.Given as goal

abbrev pub invariant-loop-start : goal.invariant-loop-start
invariant-loop-start l = record {
  order : l.start ≤ l.end;
  bound : l.end ≤ length l.self;
  below : (k : ℕ) → k < l.start → get_or (numbers l.self) k (pos 0) <ℤ l.number;
  above : (k : ℕ) → l.end ≤ k → k < length l.self → l.number ≤ℤ get_or (numbers l.self) k (pos 0);
}

abbrev pub decreases-loop-start : goal.decreases-loop-start
decreases-loop-start l = l.end - l.start
