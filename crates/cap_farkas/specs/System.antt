-- Rows with a row behind them that a split appends, and their variables in ascending order.
use Rattle.std.specs.Prelude.{◌≡◌, ℕ, ◌<◌, ◌≤◌, min, List, [], ◌∷◌, ◌++◌, length, get_or, ℤ, pos}
use Rattle.std.specs.Prelude.{negsuc, ◌+ℤ◌, ◌*ℤ◌, Option, Some, None}
use Rattle.cap_lin.specs.Linear.{Linear}
use Rattle.cap_lin.specs.Steps.{Step, sum_of, product_of, first_wide}
use Rattle.cap_lin.specs.Rows.{below_zero, below_zero_steps, above_zero, above_zero_steps}
use Rattle.cap_lin.specs.declared.row.Row.{Row}
use Rattle.cap_lin.specs.declared.row.Sort.{Sort}
use Rattle.cap_lin.specs.declared.row.Sort.TheVariants.{Int, Perm}
use Rattle.cap_lin.specs.declared.row.Kind.{Kind}
use Rattle.cap_lin.specs.declared.row.Kind.TheVariants.{Le, Lt}
use Rattle.cap_farkas.specs.Farkas.{row_at, constant_of, coefficient_of}
use Rattle.cap_farkas.specs.declared.system.Side.{Side}
use Rattle.cap_farkas.specs.declared.system.Side.TheVariants.{Below, Above}
use Rattle.cap_farkas.specs.declared.system.Appended.{Appended}
use Rattle.cap_farkas.specs.declared.system.Column.{Column}
use Rattle.cap_farkas.specs.declared.system.Column.TheVariants.{Constant, Of}

abbrev pub part_of : Column → Linear → ℤ
part_of Constant = constant_of
part_of (Of x) = coefficient_of x

-- the kind and the constant of the row that a term is below 0, and the results on the way
abbrev pub below_kind : Sort → Kind
below_kind Int = Le
below_kind Perm = Lt

abbrev pub below_constant : Sort → ℤ → ℤ
below_constant Int c = c +ℤ pos 1
below_constant Perm c = c

abbrev pub below_steps : Sort → ℤ → List Step
below_steps Int c = sum_of c (pos 1) ∷ []
below_steps Perm c = []

-- the row that a term is on a side of 0, and the results on the way to it
abbrev pub side_row : Side → Sort → Linear → Row
side_row Below s t = below_zero s t
side_row Above s t = above_zero s t

abbrev pub side_steps : Side → Sort → Linear → List Step
side_steps Below s t = below_zero_steps s t
side_steps Above s t = above_zero_steps s t

-- and those of its constant alone
abbrev pub side_constant : Side → Sort → ℤ → ℤ
side_constant Below s c = below_constant s c
side_constant Above s c = below_constant s (negsuc 0 *ℤ c)

abbrev pub side_constant_steps : Side → Sort → ℤ → List Step
side_constant_steps Below s c = below_steps s c
side_constant_steps Above s c = (product_of (negsuc 0) c ∷ []) ++ below_steps s (negsuc 0 *ℤ c)

abbrev pub appended_row : List Row → Appended → Row
appended_row rows a = side_row a.side (row_at rows a.place).sort (row_at rows a.place).term

-- the rows, and behind them the appended one
abbrev pub all_rows : List Row → Option Appended → List Row
all_rows rows None = rows
all_rows rows (Some a) = rows ++ appended_row rows a ∷ []

-- the appended row is made of one of the rows, and stays within 128 bits
pub record IsAppended (rows : List Row) (a : Appended) : Type 0 where
  pub bound : a.place < length rows
  pub narrow : first_wide (side_steps a.side (row_at rows a.place).sort (row_at rows a.place).term)
      ≡ None

abbrev pub AreAppended : List Row → Option Appended → Type 0
AreAppended rows None = Unit {0}
AreAppended rows (Some a) = IsAppended rows a

-- no named row has the variable
abbrev pub IsAbsent : List Row → List (ℕ × ℤ) → ℕ → Type 0
IsAbsent rows leaf x = (k : ℕ) → k < length leaf
    → coefficient_of x (row_at rows (get_or leaf k (0, pos 0)).0).term ≡ pos 0

-- no variable from `low` on, and below the next one, if there is one, is in a named row
abbrev pub IsNextFrom : ℕ → List Row → List (ℕ × ℤ) → Option ℕ → Type 0
IsNextFrom low rows leaf None = (x : ℕ) → low ≤ x → IsAbsent rows leaf x
IsNextFrom low rows leaf (Some y) = (low ≤ y) × ((x : ℕ) → low ≤ x → x < y → IsAbsent rows leaf x)

-- the lesser of two numbers, where they are there
abbrev pub Earlier : Option ℕ → Option ℕ → Option ℕ → Type 0
Earlier None b r = r ≡ b
Earlier (Some x) None r = r ≡ Some x
Earlier (Some x) (Some y) r = r ≡ Some (min x y)
