-- Leaves: multipliers of rows, and what it takes that their sum contradicts itself.
use Rattle.std.specs.Prelude.{◌≡◌, ◌≢◌, ℕ, ◌+◌, ◌<◌, ◌≤◌, ℤ, pos, ◌+ℤ◌, ◌*ℤ◌, ◌<ℤ◌, ◌⊎◌, List, []}
use Rattle.std.specs.Prelude.{◌∷◌, length, get_or, Option, Some, None}
use Rattle.cap_lin.specs.Linear.{Linear, number, coefficient}
use Rattle.cap_lin.specs.Steps.{Step, sum_of, product_of, first_wide}
use Rattle.cap_lin.specs.Rows.{row}
use Rattle.cap_lin.specs.declared.row.Row.{Row}
use Rattle.cap_lin.specs.declared.row.Sort.TheVariants.{Int}
use Rattle.cap_lin.specs.declared.row.Kind.{Kind}
use Rattle.cap_lin.specs.declared.row.Kind.TheVariants.{Le, Lt, Eq, Ne}

-- a row of this kind may be taken with this multiplier
abbrev pub MayMultiply : Kind → ℤ → Type 0
MayMultiply Le k = pos 0 <ℤ k
MayMultiply Lt k = pos 0 <ℤ k
MayMultiply Eq k = k ≢ pos 0
MayMultiply Ne k = ⊥

-- past the rows stands 0 <= 0, so that each number has a row
abbrev pub no_row : Row
no_row = row Le Int (number (pos 0))

abbrev pub row_at : List Row → ℕ → Row
row_at rows i = get_or rows i no_row

-- the numbers ascend from `low` on, each is that of a row, and the row may be taken with its
-- multiplier
unfoldable pub Names : ℕ → List Row → List (ℕ × ℤ) → Type 0
Names low rows [] = Unit {0}
Names low rows (p ∷ ps) =
    (low ≤ p.0) × (p.0 < length rows) × MayMultiply (row_at rows p.0).kind p.1
    × Names (p.0 + 1) rows ps

-- a column of rows: their constants, or their coefficients of a variable
abbrev pub constant_of : Linear → ℤ
constant_of t = t.constant

abbrev pub coefficient_of : ℕ → Linear → ℤ
coefficient_of x t = coefficient x t.parts

-- a sum, and the column's multiples added to it in the order of the leaf
unfoldable pub column_sum : (Linear → ℤ) → List Row → ℤ → List (ℕ × ℤ) → ℤ
column_sum of rows sum [] = sum
column_sum of rows sum (p ∷ ps) = column_sum of rows (sum +ℤ p.1 *ℤ of (row_at rows p.0).term) ps

-- the results on the way: each product, and then the sum so far and the product
unfoldable pub column_steps : (Linear → ℤ) → List Row → ℤ → List (ℕ × ℤ) → List Step
column_steps of rows sum [] = []
column_steps of rows sum (p ∷ ps) =
    product_of p.1 (of (row_at rows p.0).term)
    ∷ (sum_of sum (p.1 *ℤ of (row_at rows p.0).term)
    ∷ column_steps of rows (sum +ℤ p.1 *ℤ of (row_at rows p.0).term) ps)

-- a column stays within 128 bits
abbrev pub IsNarrow : (Linear → ℤ) → List Row → List (ℕ × ℤ) → Type 0
IsNarrow of rows leaf = first_wide (column_steps of rows (pos 0) leaf) ≡ None

-- what a column sums to, where it stays within 128 bits
abbrev pub SumsTo : (Linear → ℤ) → List Row → List (ℕ × ℤ) → Option ℤ → Type 0
SumsTo of rows leaf None = ¬ IsNarrow of rows leaf
SumsTo of rows leaf (Some sum) = IsNarrow of rows leaf × (sum ≡ column_sum of rows (pos 0) leaf)

-- the kind of the row of a number, where there is one
abbrev pub IsKindAt : List Row → ℕ → Option Kind → Type 0
IsKindAt rows i None = length rows ≤ i
IsKindAt rows i (Some k) = (i < length rows) × (k ≡ (row_at rows i).kind)

-- the variable's column stays within 128 bits, and its sum is 0
pub record Cancels (rows : List Row) (leaf : List (ℕ × ℤ)) (x : ℕ) : Type 0 where
  pub narrow : IsNarrow (coefficient_of x) rows leaf
  pub zero_sum : column_sum (coefficient_of x) rows (pos 0) leaf ≡ pos 0

-- some named row is Lt
unfoldable pub HasStrict : List Row → List (ℕ × ℤ) → Type 0
HasStrict rows [] = ⊥
HasStrict rows (p ∷ ps) = ((row_at rows p.0).kind ≡ Lt) ⊎ HasStrict rows ps

-- the sum is above 0, or it is 0 and a named row is Lt: but it ought to be at most 0, and then
-- below 0
abbrev pub Contradicts : List Row → List (ℕ × ℤ) → ℤ → Type 0
Contradicts rows leaf sum = (pos 0 <ℤ sum) ⊎ ((sum ≡ pos 0) × HasStrict rows leaf)

-- the leaf refutes the rows: by Farkas' lemma, its multiples of rows add up to a constant that
-- contradicts them
pub record RefutesLeaf (rows : List Row) (leaf : List (ℕ × ℤ)) : Type 0 where
  pub names : Names 0 rows leaf
  pub constant : IsNarrow constant_of rows leaf
  pub cancels : (x : ℕ) → Cancels rows leaf x
  pub contradicts : Contradicts rows leaf (column_sum constant_of rows (pos 0) leaf)
