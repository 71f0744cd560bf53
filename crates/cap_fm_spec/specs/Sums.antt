-- Rows as sums of multiples of the input rows.
use Rattle.std.specs.Prelude.{◌≡◌, ℕ, ◌≤◌, List, length, ℤ, pos, ◌≤ℤ◌, ◌<ℤ◌}
use Rattle.cap_lin.specs.Linear.{Linear, coefficient}
use Rattle.cap_lin.specs.Values.{value}
use Rattle.cap_lin.specs.declared.row.Row.{Row}
use Rattle.cap_lin.specs.declared.row.Kind.{Kind}
use Rattle.cap_lin.specs.declared.row.Kind.TheVariants.{Le, Lt, Eq, Ne}
use Rattle.cap_farkas.specs.Farkas.{row_at, constant_of, coefficient_of}

-- a column of rows: of each row, by its number, its constant or its coefficient of a variable
abbrev pub column : (Linear → ℤ) → List Row → ℕ → ℤ
column of rows i = of (row_at rows i).term

-- a row of this kind may have this multiplier in a sum of the other kind
abbrev pub MayAdd : Kind → Kind → ℤ → Type 0
MayAdd Le k c = (pos 0 ≤ℤ c) × (k ≡ Eq → c ≡ pos 0)
MayAdd Lt k c = (pos 0 ≤ℤ c) × (k ≡ Eq → c ≡ pos 0)
MayAdd Eq k c = Unit {0}
MayAdd Ne k c = c ≡ pos 0

-- some row Lt has a multiplier above 0
pub record HasStrictly (rows : List Row) (m : Linear) : Type 0 where
  pub number : ℕ
  pub strict : (row_at rows number).kind ≡ Lt
  pub above : pos 0 <ℤ coefficient number m.parts

-- the term is the sum of the input rows' terms, each times the coefficient that its number has in
-- m, and the sum says of the term what the kind does
pub record IsSumOf (rows : List Row) (t : Linear) (k : Kind) (m : Linear) : Type 0 where
  pub bare : m.constant ≡ pos 0
  pub constant : t.constant ≡ value (column constant_of rows) m
  pub coefficients : (x : ℕ) → coefficient x t.parts ≡ value (column (coefficient_of x) rows) m
  pub within : (i : ℕ) → length rows ≤ i → coefficient i m.parts ≡ pos 0
  pub may : (i : ℕ) → MayAdd (row_at rows i).kind k (coefficient i m.parts)
  pub strict : k ≡ Lt → HasStrictly rows m
