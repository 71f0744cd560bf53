-- Which rows and comparisons hold under a valuation, and which rows none solves.
use Rattle.std.specs.Prelude.{◌≡◌, ◌≢◌, ℕ, List, [], ◌∷◌, ◌++◌, ◌⊎◌, ℤ, pos, ◌*ℤ◌, ◌≤ℤ◌, ◌<ℤ◌}
use Rattle.std.specs.Prelude.{slice_get, Some}
use Rattle.std.specs.List.{AllByRecursion}
use Rattle.cap_lin.specs.Linear.{Linear}
use Rattle.cap_lin.specs.Values.{RationalValuation, Valuation, denominator, value, amount}
use Rattle.cap_lin.specs.Rows.{row, below_zero, above_zero}
use Rattle.cap_lin.specs.declared.row.Row.{Row}
use Rattle.cap_lin.specs.declared.row.Sort.{Sort}
use Rattle.cap_lin.specs.declared.row.Sort.TheVariants.{Int, Perm}
use Rattle.cap_lin.specs.declared.row.Kind.{Kind}
use Rattle.cap_lin.specs.declared.row.Kind.TheVariants.{Le, Lt, Eq, Ne}
use Rattle.cap_lin.specs.declared.row.Op.{Op}
use Rattle.cap_lin.specs.declared.row.Op.TheVariants.{Le as AtMost, Lt as Less, Eq as Equal}
use Rattle.cap_lin.specs.declared.row.Op.TheVariants.{Ne as Unequal, Gt as Greater, Ge as AtLeast}

-- a term's value by sort: a whole number, or a fraction's numerator over the denominator
abbrev pub value_by_sort : Sort → Valuation → Linear → ℤ
value_by_sort Int v t = value v.whole t
value_by_sort Perm v t = amount v.fraction t

-- a number, or its positive multiple, is as a row of this kind wants it
abbrev pub HoldsAs : Kind → ℤ → Type 0
HoldsAs Le z = z ≤ℤ pos 0
HoldsAs Lt z = z <ℤ pos 0
HoldsAs Eq z = z ≡ pos 0
HoldsAs Ne z = z ≢ pos 0

abbrev pub Holds : Valuation → Row → Type 0
Holds v r = HoldsAs r.kind (value_by_sort r.sort v r.term)

-- some row of the list holds
abbrev pub HoldsSome : Valuation → List Row → Type 0
HoldsSome v [] = ⊥
HoldsSome v (r ∷ rs) = Holds v r ⊎ HoldsSome v rs

abbrev pub Relates : Op → ℤ → ℤ → Type 0
Relates Equal a b = a ≡ b
Relates Unequal a b = a ≢ b
Relates Less a b = a <ℤ b
Relates AtMost a b = a ≤ℤ b
Relates Greater a b = b <ℤ a
Relates AtLeast a b = b ≤ℤ a

-- a comparison of two terms of a sort
abbrev pub Compares : Valuation → Linear → Op → Linear → Sort → Type 0
Compares v l op r s = Relates op (value_by_sort s v l) (value_by_sort s v r)

-- the variable's fraction is its whole number
abbrev pub IsWholeAt : Valuation → ℕ → Type 0
IsWholeAt v x = v.fraction.numerator x ≡ v.whole x *ℤ denominator v.fraction

abbrev pub PartsWhole : Valuation → List (ℕ × ℤ) → Type 0
PartsWhole v [] = Unit {0}
PartsWhole v (p ∷ ps) = IsWholeAt v p.0 × PartsWhole v ps

-- the variables of a term of sort Int have one value, which is whole
abbrev pub FitsSort : Valuation → Sort → Linear → Type 0
FitsSort v Int t = PartsWhole v t.parts
FitsSort v Perm t = Unit {0}

-- the valuation gives whole numbers to the variables of rows of sort Int, and each row holds
pub record Solves (v : Valuation) (rows : List Row) : Type 0 where
  pub fits : AllByRecursion (λ r. FitsSort v r.sort r.term) rows
  pub holds : AllByRecursion (Holds v) rows

-- no valuation solves the rows
abbrev pub HasNone : List Row → Type 0
HasNone rows = (v : Valuation) → Solves v rows → ⊥

-- each valuation that solves the rows meets the row
abbrev pub Proves : List Row → Row → Type 0
Proves rows r = (v : Valuation) → Solves v rows → FitsSort v r.sort r.term → Holds v r

-- a row as it is written, where each variable is a fraction, of whichever sort
abbrev pub HoldsRationally : RationalValuation → Row → Type 0
HoldsRationally q r = HoldsAs r.kind (amount q r.term)

abbrev pub SolvesRationally : RationalValuation → List Row → Type 0
SolvesRationally q rows = AllByRecursion (HoldsRationally q) rows

abbrev pub HasNoRational : List Row → Type 0
HasNoRational rows = (q : RationalValuation) → SolvesRationally q rows → ⊥

-- the rows that are not Ne
abbrev pub kept : Kind → Row → List Row → List Row
kept Ne r rows = rows
kept _ r rows = r ∷ rows

abbrev pub without_ne : List Row → List Row
without_ne [] = []
without_ne (r ∷ rs) = kept r.kind r (without_ne rs)

-- the row at a place is Ne, and its term can be neither below 0 nor above 0
pub record SplitsToNone (rows : List Row) (place : ℕ) : Type 0 where
  pub term : Linear
  pub sort : Sort
  pub is : slice_get rows place ≡ Some (row Ne sort term)
  pub below : HasNoRational (without_ne rows ++ below_zero sort term ∷ [])
  pub above : HasNoRational (without_ne rows ++ above_zero sort term ∷ [])

-- no rational valuation solves the rows that are not Ne, or so it is on both sides of one row Ne
abbrev pub Infeasible : List Row → Type 0
Infeasible rows = HasNoRational (without_ne rows) ⊎ ((place : ℕ) × SplitsToNone rows place)
