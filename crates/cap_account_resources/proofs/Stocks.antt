-- What is held, cells and guards together: a commutative monoid, ordered by what it adds.
use Rattle.std.proofs.Common.{◌≡◌, ◌≢◌, ℕ, ◌+◌, ◌-◌, ◌≤◌, ℤ, List, [], ◌∷◌, Option, Some, None, refl, ap, ◌∙◌, subst, arith}
use Rattle.cap_prog.specs.Program.{PlainProgram}
use Rattle.cap_account_resources.specs.Parts.{Cells, one_cell}
use Rattle.cap_account_resources.proofs.Monoid.{IsCommutative, Sum, flat, within, fewer, reorder, meaning, each_of, below_trans, below_plus}
use Rattle.cap_account_resources.proofs.Marks.{Mark, free, joins-law}
use Rattle.cap_account_resources.proofs.Covering.{join_marks}
use Rattle.cap_account_resources.proofs.Interference.{Holding, ArePartOf}
use Rattle.cap_account_resources.proofs.Room.{alone, part-some}

-- ---- stocks

-- how often each cell is held, and of each region its guards, or none where they don't compose
pub record Stock : Type 0 where
  pub cells : Cells
  pub guards : Holding

abbrev pub no_cells : Cells
no_cells a z = 0

abbrev pub no_guards : Holding
no_guards n = Some free

abbrev pub no_stock : Stock
no_stock = record { cells = no_cells; guards = no_guards }

-- one cell, and guards of one region
abbrev pub cell_stock : ℤ → ℤ → Stock
cell_stock a z = record { cells = one_cell a z; guards = no_guards }

abbrev pub guard_stock : ℤ → Option Mark → Stock
guard_stock n m = record { cells = no_cells; guards = alone n m }

abbrev pub both : PlainProgram → Stock → Stock → Stock
both p q r = record {
  cells = λ a z. q.cells a z + r.cells a z;
  guards = λ n. join_marks p (q.guards n) (r.guards n);
}

-- what is held of each region composes
abbrev pub Composes : Stock → Type 0
Composes q = (n : ℤ) → q.guards n ≢ None

-- of these numbers together
abbrev pub all_of : PlainProgram → List ℤ → (ℤ → Stock) → Stock
all_of p [] f = no_stock
all_of p (n ∷ ns) f = both p (f n) (all_of p ns f)

-- ---- their monoid

add-comm : (m n : ℕ) → m + n ≡ n + m
add-comm m n = omega arith

add-zero : (n : ℕ) → 0 + n ≡ n
add-zero n = omega arith

add-assoc : (m n k : ℕ) → m + n + k ≡ m + (n + k)
add-assoc m n k = omega arith

count-laws : IsCommutative ℕ (λ m n. m + n) 0
count-laws = record { comm = add-comm; zero_left = add-zero; assoc = add-assoc }

-- cells are counts by address and content
cells-laws : IsCommutative Cells (λ c d a z. c a z + d a z) no_cells
cells-laws =
    each_of (ℤ → ℕ) (λ c d z. c z + d z) (λ z. 0) (each_of ℕ (λ m n. m + n) 0 count-laws)

guards-laws : (p : PlainProgram) →
    IsCommutative Holding (λ g h n. join_marks p (g n) (h n)) no_guards
guards-laws p = each_of (Option Mark) (join_marks p) (Some free) (joins-law p)

pub stock-laws : (p : PlainProgram) → IsCommutative Stock (both p) no_stock
stock-laws p = record {
  comm = λ q r i. record {
    cells = cells-laws.comm q.cells r.cells i;
    guards = (guards-laws p).comm q.guards r.guards i;
  };
  zero_left = λ q i. record {
    cells = cells-laws.zero_left q.cells i;
    guards = (guards-laws p).zero_left q.guards i;
  };
  assoc = λ q r t i. record {
    cells = cells-laws.assoc q.cells r.cells t.cells i;
    guards = (guards-laws p).assoc q.guards r.guards t.guards i;
  };
}

pub same-stock :
    (q r : Stock) → ((a z : ℤ) → q.cells a z ≡ r.cells a z) → ((n : ℤ) → q.guards n ≡ r.guards n) →
    q ≡ r
same-stock q r c g i = record { cells = λ a z. c a z i; guards = λ n. g n i }

-- the second holds all that the first does: it is the first with something more
abbrev pub Inside : PlainProgram → Stock → Stock → Type 0
Inside p r q = (more : Stock) × (both p r more ≡ q)

-- a sum of stocks, as the solver of monoids writes it
abbrev pub total_of : PlainProgram → List Stock → Sum → Stock
total_of p = meaning Stock (both p) no_stock (stock-laws p)

module _ (p : PlainProgram) where
  pub none-right : (q : Stock) → both p q no_stock ≡ q
  none-right q = (stock-laws p).comm q no_stock ∙ (stock-laws p).zero_left q

  -- the same stocks in another order; some of them. The last argument is refl
  pub reordered :
      (atoms : List Stock) (s t : Sum) → within (flat s) (flat t) ≡ Some [] →
      total_of p atoms s ≡ total_of p atoms t
  reordered atoms s t e = reorder Stock (both p) no_stock (stock-laws p) atoms s t e

  pub some-inside :
      (atoms : List Stock) (s t : Sum) (zs : List ℕ) → within (flat s) (flat t) ≡ Some zs →
      Inside p (total_of p atoms s) (total_of p atoms t)
  some-inside atoms s t zs e = fewer Stock (both p) no_stock (stock-laws p) atoms s t zs e

  pub inside-same : (q : Stock) → Inside p q q
  inside-same q = (no_stock, none-right q)

  pub inside-is : (q r : Stock) → q ≡ r → Inside p q r
  inside-is q r e = (no_stock, none-right q ∙ e)

  pub inside-trans : (q r t : Stock) → Inside p q r → Inside p r t → Inside p q t
  inside-trans q r t h k = below_trans Stock (both p) no_stock (stock-laws p) q r t h k

  pub inside-first : (q r : Stock) → Inside p q (both p q r)
  inside-first q r = (r, refl)

  pub inside-second : (q r : Stock) → Inside p r (both p q r)
  inside-second q r = (q, (stock-laws p).comm r q)

  -- with the same beside both
  pub inside-beside : (q r t : Stock) → Inside p q r → Inside p (both p q t) (both p r t)
  inside-beside q r t h = below_plus Stock (both p) no_stock (stock-laws p) q r t h

  pub inside-both :
      (q r t u : Stock) → Inside p q r → Inside p t u → Inside p (both p q t) (both p r u)
  inside-both q r t u h k =
      inside-trans (both p q t) (both p r t) (both p r u) (inside-beside q r t h)
      (subst (λ x. Inside p x (both p r u)) ((stock-laws p).comm t r)
      (subst (Inside p (both p t r)) ((stock-laws p).comm u r) (inside-beside t u r k)))

  -- by cells, and by regions
  pub inside-cells : (r q : Stock) → Inside p r q → (a z : ℤ) → r.cells a z ≤ q.cells a z
  inside-cells r q h a z =
      let e = ap (λ (x : Stock). x.cells a z) h.1 in omega (arith, e)

  pub inside-guards : (r q : Stock) → Inside p r q → ArePartOf p r.guards q.guards
  inside-guards r q h n = (h.0.guards n, ap (λ (x : Stock). x.guards n) h.1)

  pub inside-by :
      (r q : Stock) → ((a z : ℤ) → r.cells a z ≤ q.cells a z) → ArePartOf p r.guards q.guards →
      Inside p r q
  inside-by r q c g = (
    record { cells = λ a z. q.cells a z - r.cells a z; guards = λ n. (g n).0 },
    same-stock _ q (λ a z. (let h = c a z in omega (arith, h))) (λ n. (g n).1),
  )

  pub composes-inside : (r q : Stock) → Inside p r q → Composes q → Composes r
  composes-inside r q h k n =
      part-some p (r.guards n) (q.guards n) (inside-guards r q h n) (k n)
