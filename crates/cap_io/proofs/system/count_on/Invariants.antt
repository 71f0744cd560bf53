-- The bytes seen are those seen before and those that were read, at most one more than a file may have.
use Rattle.std.proofs.Common.{◌≡◌, ℕ, ◌+◌, ◌-◌, ◌≤◌, List, length}
use Rattle.std.specs.Io.KnownBytes.{Consumes}
use Rattle.cap_io.specs.Outside.{longest}
use Rattle.cap_io.proofs.system.count_on.Given as goal

abbrev pub invariant-loop-seen : goal.invariant-loop-seen
invariant-loop-seen g l = record {
  few : l.seen ≤ longest + 1;
  read : (bytes : List ℕ) × Consumes (g.F.Read.remaining l.fn.file) (g.F.Read.remaining l.file) bytes × (l.seen ≡ l.fn.seen + length bytes);
}

abbrev pub decreases-loop-seen : goal.decreases-loop-seen
decreases-loop-seen g l = longest + 1 - l.seen
