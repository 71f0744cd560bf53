-- Certificates: a leaf, or a split of a row Ne into two leaves; and what they exclude.
use Rattle.std.specs.Prelude.{◌≡◌, ℕ, List, [], ◌∷◌, ◌++◌, ℤ, slice_get, Some, None}
use Rattle.cap_lin.specs.Linear.{Linear}
use Rattle.cap_lin.specs.Steps.{first_wide}
use Rattle.cap_lin.specs.Rows.{row, below_zero, below_zero_steps, above_zero, above_zero_steps}
use Rattle.cap_lin.specs.Solves.{HasNoRational, without_ne, SplitsToNone}
use Rattle.cap_lin.specs.declared.row.Row.{Row}
use Rattle.cap_lin.specs.declared.row.Sort.{Sort}
use Rattle.cap_lin.specs.declared.row.Kind.TheVariants.{Ne}
use Rattle.cap_farkas.specs.Farkas.{RefutesLeaf}
use Rattle.cap_farkas.specs.System.{all_rows, IsAppended}
use Rattle.cap_farkas.specs.declared.system.Appended.{Appended}
use Rattle.cap_farkas.specs.declared.cert.Cert.{Cert}
use Rattle.cap_farkas.specs.declared.cert.Cert.TheVariants.{Leaf, Split}

-- a leaf refutes the rows and the row behind them that a row's term is on a side of 0
abbrev pub RefutesSide : List Row → Appended → List (ℕ × ℤ) → Type 0
RefutesSide rows a leaf = IsAppended rows a × RefutesLeaf (all_rows rows (Some a)) leaf

-- the row at a place is Ne; one leaf refutes the rows with its term below 0, the other with its
-- term above 0
pub record RefutesSplit (rows : List Row) (place : ℕ) (below above : List (ℕ × ℤ)) : Type 0 where
  pub term : Linear
  pub sort : Sort
  pub is : slice_get rows place ≡ Some (row Ne sort term)
  pub below_narrow : first_wide (below_zero_steps sort term) ≡ None
  pub below_refuted : RefutesLeaf (rows ++ below_zero sort term ∷ []) below
  pub above_narrow : first_wide (above_zero_steps sort term) ≡ None
  pub above_refuted : RefutesLeaf (rows ++ above_zero sort term ∷ []) above

-- the certificate refutes the rows
abbrev pub Refutes : List Row → Cert → Type 0
Refutes rows (Leaf leaf) = RefutesLeaf rows leaf
Refutes rows (Split place below above) = RefutesSplit rows place below above

-- what a certificate excludes: a leaf, each rational valuation of the rows that are not Ne; a
-- split, each on both sides of its row
abbrev pub Excludes : List Row → Cert → Type 0
Excludes rows (Leaf leaf) = HasNoRational (without_ne rows)
Excludes rows (Split place below above) = SplitsToNone rows place
