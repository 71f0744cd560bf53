-- The elimination of variables from rows, by equations and by pairs of bounds.
use Rattle.std.specs.Prelude.{ℕ, zero, suc, ◌+◌, max, List, [], ◌∷◌, ◌++◌, filter, length, ℤ, pos}
use Rattle.std.specs.Prelude.{negsuc, ◌*ℤ◌, Bool, true, false, if◌then◌else◌, Option, Some, None}
use Rattle.std.specs.Prelude.{option_map}
use Rattle.cap_lin.specs.Linear.{Linear, is_zero, coefficient}
use Rattle.cap_lin.specs.Steps.{product_of}
use Rattle.cap_lin.specs.declared.row.Row.{Row}
use Rattle.cap_lin.specs.declared.row.Kind.{Kind}
use Rattle.cap_lin.specs.declared.row.Kind.TheVariants.{Le, Lt, Eq, Ne}
use Rattle.cap_fm_spec.specs.Runs.{Entry, Elimination, done, results, ◌>>=◌}
use Rattle.cap_fm_spec.specs.Rows.{arise_given, combine, of_row, is_positive, is_negative}

-- ---- input rows, which are numbered from 0; a row Ne takes no part

abbrev pub input : List Entry → ℕ → Kind → Linear → Elimination (List Entry)
input present i Ne t = done []
input present i k t = arise_given present t k i

unfoldable pub inputs : List Entry → ℕ → List Row → Elimination (List Entry)
inputs present i [] = done present
inputs present i (r ∷ rows) = do
  more ← input present i r.kind r.term
  inputs (present ++ more) (i + 1) rows

-- ---- by an equation

-- a row in which the variable has the coefficient q becomes a combination with an equation in which
-- it has e
abbrev pub replacement : List Entry → ℤ → ℤ → Entry → Entry → Elimination (List Entry)
replacement present (pos n) q equation r = do
  u ← results (product_of (negsuc 0) q ∷ [])
  combine present (pos n) r (negsuc 0 *ℤ q) equation r.kind
replacement present (negsuc n) q equation r = do
  u ← results (product_of (negsuc 0) (negsuc n) ∷ [])
  combine present (negsuc 0 *ℤ negsuc n) r q equation r.kind

abbrev pub replace : ℕ → Entry → List Entry → Entry → Elimination (List Entry)
replace x equation present r =
    if is_zero (of_row x r) then done (r ∷ [])
    else replacement present (of_row x equation) (of_row x r) equation r

-- the rows one after the other, each in its place; those replaced and those still to replace are
-- present
unfoldable pub replace_all : ℕ → Entry → List Entry → List Entry → Elimination (List Entry)
replace_all x equation before [] = done before
replace_all x equation before (r ∷ rows) = do
  new ← replace x equation (before ++ rows) r
  replace_all x equation (before ++ new) rows

-- an equation among rows, the other rows, and a variable that it has
pub record Pivot : Type 0 where
  pub equation : Entry
  pub others : List Entry
  pub variable : ℕ

abbrev pub pivot : Entry → List Entry → ℕ → Pivot
pivot r rows x = record { equation = r; others = rows; variable = x }

abbrev pub passed : Entry → Pivot → Pivot
passed r p = record p { others = r ∷ p.others }

abbrev pub or_later : Entry → List Entry → Option ℕ → Option Pivot → Option Pivot
or_later r rows (Some x) later = Some (pivot r rows x)
or_later r rows None later = option_map (passed r) later

-- the first equation of which a choice gives a variable
abbrev pub chosen : (List (ℕ × ℤ) → Option ℕ) → Kind → List (ℕ × ℤ) → Option ℕ
chosen choice Eq ps = choice ps
chosen choice k ps = None

unfoldable pub first_pivot : (List (ℕ × ℤ) → Option ℕ) → List Entry → Option Pivot
first_pivot choice [] = None
first_pivot choice (r ∷ rows) =
    or_later r rows (chosen choice r.kind r.term.parts) (first_pivot choice rows)

abbrev pub by_equation : Pivot → Elimination (List Entry)
by_equation p = replace_all p.variable p.equation [] p.others

-- ---- first by equations that have a variable with the coefficient 1 or -1

abbrev pub is_unit : ℤ → Bool
is_unit (pos (suc zero)) = true
is_unit (negsuc zero) = true
is_unit z = false

-- the least such variable
unfoldable pub unit_variable : List (ℕ × ℤ) → Option ℕ
unit_variable [] = None
unit_variable (p ∷ ps) = if is_unit p.1 then Some p.0 else unit_variable ps

-- each turn takes out an equation, so there are no more turns than rows
abbrev pub while_some : Option Pivot → List Entry → (List Entry → Elimination (List Entry))
    → Elimination (List Entry)
while_some None rows next = done rows
while_some (Some p) rows next = by_equation p >>= next

unfoldable pub by_units : ℕ → List Entry → Elimination (List Entry)
by_units zero rows = done rows
by_units (suc turns) rows = while_some (first_pivot unit_variable rows) rows (by_units turns)

-- ---- then each variable in its turn

abbrev pub lacking : ℕ → List Entry → List Entry
lacking x rows = filter (λ r. is_zero (of_row x r)) rows

abbrev pub uppers : ℕ → List Entry → List Entry
uppers x rows = filter (λ r. is_positive (of_row x r)) rows

abbrev pub lowers : ℕ → List Entry → List Entry
lowers x rows = filter (λ r. is_negative (of_row x r)) rows

-- a sum of bounds is strict where either is
abbrev pub strictest : Kind → Kind → Kind
strictest Lt k = Lt
strictest k Lt = Lt
strictest k l = Le

-- a bound from above and one from below
abbrev pub combine_bounds : ℕ → List Entry → Entry → Entry → Elimination (List Entry)
combine_bounds x present p n = do
  u ← results (product_of (negsuc 0) (of_row x n) ∷ [])
  combine present (negsuc 0 *ℤ of_row x n) p (of_row x p) n (strictest p.kind n.kind)

-- the combinations are appended
unfoldable pub combine_each : ℕ → List Entry → Entry → List Entry → Elimination (List Entry)
combine_each x present p [] = done present
combine_each x present p (n ∷ ns) = do
  new ← combine_bounds x present p n
  combine_each x (present ++ new) p ns

unfoldable pub combine_all : ℕ → List Entry → List Entry → List Entry → Elimination (List Entry)
combine_all x present [] ns = done present
combine_all x present (p ∷ ps) ns = do
  more ← combine_each x present p ns
  combine_all x more ps ns

-- a variable, where it occurs
unfoldable pub occurring : ℕ → List (ℕ × ℤ) → Option ℕ
occurring x ps = if is_zero (coefficient x ps) then None else Some x

-- by the first equation that has the variable, and else by bounds
abbrev pub by_pivot : ℕ → List Entry → Option Pivot → Elimination (List Entry)
by_pivot x rows (Some p) = by_equation p
by_pivot x rows None = combine_all x (lacking x rows) (uppers x rows) (lowers x rows)

abbrev pub by_variable : ℕ → List Entry → Elimination (List Entry)
by_variable x rows = by_pivot x rows (first_pivot (occurring x) rows)

-- so many variables from one on; one that occurs in no row changes nothing
unfoldable pub by_variables : ℕ → ℕ → List Entry → Elimination (List Entry)
by_variables x zero rows = done rows
by_variables x (suc n) rows = do
  others ← by_variable x rows
  by_variables (x + 1) n others

-- one more than the greatest variable
unfoldable pub width_of : List (ℕ × ℤ) → ℕ
width_of [] = 0
width_of (p ∷ ps) = max (p.0 + 1) (width_of ps)

unfoldable pub width : List Entry → ℕ
width [] = 0
width (r ∷ rows) = max (width_of r.term.parts) (width rows)

-- ---- the whole

unfoldable pub eliminated : List Row → Elimination (List Entry)
eliminated rows = do
  entries ← inputs [] 0 rows
  others ← by_units (length entries) entries
  by_variables 0 (width others) others
