use Rattle.std.proofs.Common.{◌≡◌, ℕ, ◌+◌, ◌-◌, length}
use Rattle.cap_outline.specs.Gathered.{gathered_at}
use Rattle.cap_outline.proofs.gathered.Gathered.reach.Given as goal

abbrev pub invariant-room : goal.invariant-room
invariant-room l = (f k : ℕ) → gathered_at l.self-inside.functions.items f k ≡ gathered_at l.fn.self f k

abbrev pub decreases-room : goal.decreases-room
decreases-room l = l.number + 1 - length l.self-inside.functions.items
