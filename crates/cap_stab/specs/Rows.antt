-- The rows of candidates by their numbers. Only private functions cite this.
use Rattle.std.specs.Prelude.{◌≡◌, ℕ, nat_le, List, slice_get, Result, Ok, Err}
use Rattle.cap_lin.specs.declared.row.Row.{Row}
use Rattle.cap_lin.specs.declared.error.LinError.{LinError}
use Rattle.cap_lin.specs.declared.error.LinError.TheVariants.{Wide, OutOfMemory}
use Rattle.cap_goal_spec.specs.Candidates.{MadeRow, PlainCandidate, known, past}
use Rattle.cap_rules.specs.Attempts.{Attempt, ◌>>=◌, computed, found, need}

-- the row of the candidate, or the operands by which it is past 128 bits. Want of memory may come
-- in either case
abbrev pub IsRowOf : Result Row LinError → PlainCandidate → Type 0
IsRowOf (Ok r) c = c ≡ known r
IsRowOf (Err (Wide a b)) c = c ≡ past a b
IsRowOf (Err OutOfMemory) c = Unit {0}

-- the row of a candidate by its number, which is at least `low`
abbrev pub named_row : List MadeRow → ℕ → ℕ → Attempt Row
named_row all low i = do
  _ ← need (nat_le low i)
  m ← found (slice_get all i)
  computed m.row m.steps
