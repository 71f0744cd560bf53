-- Full pieces of a side of a sum, and pieces that are there and full.
use Rattle.std.specs.Prelude.{ℕ, ◌+◌, List, find}
use Rattle.cap_lin.specs.declared.row.Row.{Row}
use Rattle.cap_gsolve.specs.declared.piece.Piece.{Piece}
use Rattle.cap_rules.specs.Attempts.{Attempt, unit, ◌>>=◌, found}
use Rattle.cap_rules.specs.Making.{without_first}
use Rattle.cap_rules.specs.Taking.{prove_full, may_be_full}

-- the same piece so many atoms further
abbrev pub moved : ℕ → Piece → Piece
moved n q = record q { atom = q.atom + n }

-- the pieces without this full one, which is there and proved full
abbrev pub without_one : List Row → List Piece → Piece → Attempt (List Piece)
without_one rows ps full = do
  q ← found (find (may_be_full full) ps)
  _ ← prove_full rows q.form
  unit (without_first (may_be_full full) ps)
