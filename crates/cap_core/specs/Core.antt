-- The core of infeasible rows: each row in its turn is left out, where the rows that are still there
-- are infeasible without it.
use Rattle.std.specs.Prelude.{◌≡◌, ◌⊎◌, ℕ, suc, List, [], ◌∷◌, ◌++◌, map, Some, slice_get}
use Rattle.std.specs.List.{AllByRecursion}
use Rattle.cap_lin.specs.Solves.{Infeasible}
use Rattle.cap_lin.specs.declared.row.Row.{Row}
use Rattle.cap_farkas.specs.Refutes.{Refutes}
use Rattle.cap_farkas.specs.declared.cert.Cert.{Cert}

-- a row with its number, from 0
abbrev pub Numbered : Type 0
Numbered = ℕ × Row

abbrev pub numbered_from : ℕ → List Row → List Numbered
numbered_from i [] = []
numbered_from i (r ∷ rows) = (i, r) ∷ numbered_from (suc i) rows

abbrev pub rows_of : List Numbered → List Row
rows_of ns = map (λ n. n.1) ns

abbrev pub numbers_of : List Numbered → List ℕ
numbers_of ns = map (λ n. n.0) ns

-- ---- what a core is

-- of rows that stay and of rows that are still to be tried, in their order, these are left
abbrev pub Leaves : List Numbered → List Numbered → List Numbered → Type 0
Leaves stay [] core = core ≡ stay
Leaves stay (n ∷ later) core =
    (Infeasible (rows_of (stay ++ later)) × Leaves stay later core)
    ⊎ ((¬ Infeasible (rows_of (stay ++ later))) × Leaves (stay ++ n ∷ []) later core)

-- the numbers of the rows that are left
pub record IsCore (rows : List Row) (numbers : List ℕ) : Type 0 where
  pub core : List Numbered
  pub leaves : Leaves [] (numbered_from 0 rows) core
  pub whole : numbers ≡ numbers_of core

-- ---- what a core is good for

-- none of the rows that come behind those before can be left out, and no certificate does without it
abbrev pub AreNeeded : List Row → List Row → Type 0
AreNeeded before [] = Unit {0}
AreNeeded before (r ∷ rows) =
    (¬ Infeasible (before ++ rows)) × ((c : Cert) → ¬ Refutes (before ++ rows) c)
    × AreNeeded (before ++ r ∷ []) rows

-- the row stands at its number
abbrev pub StandsIn : List Row → Numbered → Type 0
StandsIn rows n = slice_get rows n.0 ≡ Some n.1

-- the rows of these numbers are infeasible, and without any one of them they aren't
pub record IsIrreducible (rows : List Row) (numbers : List ℕ) : Type 0 where
  pub core : List Numbered
  pub whole : numbers ≡ numbers_of core
  pub stand : AllByRecursion (StandsIn rows) core
  pub infeasible : Infeasible (rows_of core)
  pub needed : AreNeeded [] (rows_of core)

abbrev pub CoresAreIrreducible : Type 0
CoresAreIrreducible =
    (rows : List Row) (numbers : List ℕ) → Infeasible rows → IsCore rows numbers
    → IsIrreducible rows numbers
