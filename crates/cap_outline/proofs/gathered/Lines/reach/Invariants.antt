use Rattle.std.proofs.Common.{◌≡◌, ℕ, ◌+◌, ◌-◌, length, map}
use Rattle.cap_outline.specs.Gathered.{lines_at}
use Rattle.cap_outline.proofs.gathered.Lines.reach.Given as goal

abbrev pub invariant-room : goal.invariant-room
invariant-room l = (k : ℕ) → lines_at (map (λ t. t.items) l.self-inside.statements.items) k ≡ lines_at l.fn.self k

abbrev pub decreases-room : goal.decreases-room
decreases-room l = l.number + 1 - length l.self-inside.statements.items
