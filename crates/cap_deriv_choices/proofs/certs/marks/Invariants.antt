use Rattle.std.proofs.Common.{◌≡◌, ℕ, ◌≤◌, ◌++◌, length}
use Rattle.json.specs.Json.{parse_map}
use Rattle.cap_deriv_choices.specs.Taking.{take_mark, take_items}
use Rattle.cap_deriv_choices.proofs.certs.marks.Given as goal

-- what was read, in front of what is still to be read
abbrev pub invariant-items : goal.invariant-items
invariant-items l =
    (n : ℕ) × (length l.reader ≤ n)
    × (take_items take_mark (length l.initial.reader) l.initial.reader ≡ parse_map (λ xs. l.found.items ++ xs) (take_items take_mark n l.reader))
    × (length l.reader ≤ length l.initial.reader)

abbrev pub decreases-items : goal.decreases-items
decreases-items l = length l.reader
