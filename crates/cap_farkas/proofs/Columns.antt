-- The variables of the named rows in ascending order, and that each of them cancels.
use Rattle.std.proofs.Common.{◌≡◌, ℕ, suc, ℤ, pos, ◌+ℤ◌, ◌*ℤ◌, List, [], ◌∷◌, ◌+◌, ◌<◌, ◌≤◌, get_or, arith, refl, subst, ap, sym, ◌∙◌, Option, Some, None, FitsSigned, inl, inr, IsTrue, ◌↔◌, true, false}
use Rattle.std.proofs.lemmas.Bool.{cases_lt}
use Rattle.std.proofs.lemmas.Int.{ints}
use Rattle.std.proofs.Math.Dec.{lit<}
use mir.Syntax.{w128}
use Rattle.cap_lin.specs.Linear.{coefficient}
use Rattle.cap_lin.specs.Steps.{first_wide}
use Rattle.cap_lin.specs.declared.row.Row.{Row}
use Rattle.cap_lin.proofs.Results.{product-fits, sum-fits, first_wide-nil}
use Rattle.cap_lin.proofs.Merge.{no_part}
use Rattle.cap_farkas.specs.Farkas.{row_at, coefficient_of, column_sum, column_steps, IsNarrow, Cancels}
use Rattle.cap_farkas.specs.System.{IsAbsent, IsNextFrom}
use Rattle.cap_farkas.proofs.Named.{refused, accepted}

-- no variable from `low` on, and below the next one, is in the first rows named
abbrev pub IsNextOf : ℕ → List Row → List (ℕ × ℤ) → ℕ → Option ℕ → Type 0
IsNextOf low rows leaf count None = (x : ℕ) → low ≤ x → (k : ℕ) → k < count → coefficient_of x (row_at rows (get_or leaf k no_part).0).term ≡ pos 0
IsNextOf low rows leaf count (Some y) = (low ≤ y) × ((x : ℕ) → low ≤ x → x < y → (k : ℕ) → k < count → coefficient_of x (row_at rows (get_or leaf k no_part).0).term ≡ pos 0)

-- ---- a variable that is in no named row cancels
zero-fits : FitsSigned w128 (pos 0)
zero-fits = record { sfits = lit< tt }

absent-sum : (x : ℕ) (rows : List Row) (leaf : List (ℕ × ℤ)) → IsAbsent rows leaf x → column_sum (coefficient_of x) rows (pos 0) leaf ≡ pos 0
unfolding column_sum
absent-sum x rows [] a = refl
absent-sum x rows (p ∷ ps) a =
    let z = a 0 (omega arith) in
    let e : pos 0 +ℤ p.1 *ℤ coefficient x (row_at rows p.0).term.parts ≡ pos 0 = rw z (omega (arith, ints)) in
    ap (λ s. column_sum (coefficient_of x) rows s ps) e ∙ absent-sum x rows ps (λ k h. a (suc k) (omega arith))

absent-narrow : (x : ℕ) (rows : List Row) (leaf : List (ℕ × ℤ)) → IsAbsent rows leaf x → first_wide (column_steps (coefficient_of x) rows (pos 0) leaf) ≡ None
unfolding column_steps
absent-narrow x rows [] a = first_wide-nil
absent-narrow x rows (p ∷ ps) a =
    let c = a 0 (omega arith) in
    let z : p.1 *ℤ coefficient x (row_at rows p.0).term.parts ≡ pos 0 = rw c (omega (arith, ints)) in
    let e : pos 0 +ℤ p.1 *ℤ coefficient x (row_at rows p.0).term.parts ≡ pos 0 = rw z refl in
    product-fits p.1 (coefficient x (row_at rows p.0).term.parts) _ (rw z zero-fits) ∙ sum-fits (pos 0) (p.1 *ℤ coefficient x (row_at rows p.0).term.parts) _ (rw e zero-fits) ∙ ap (λ s. first_wide (column_steps (coefficient_of x) rows s ps)) e ∙ absent-narrow x rows ps (λ k h. a (suc k) (omega arith))

absent-cancels : (x : ℕ) (rows : List Row) (leaf : List (ℕ × ℤ)) → IsAbsent rows leaf x → Cancels rows leaf x
absent-cancels x rows leaf a = record { narrow = absent-narrow x rows leaf a; zero_sum = absent-sum x rows leaf a }

-- ---- the loop over the variables

pub wide : (rows : List Row) (leaf : List (ℕ × ℤ)) (x : ℕ) → ¬ IsNarrow (coefficient_of x) rows leaf → IsTrue false ↔ ((y : ℕ) → Cancels rows leaf y)
wide rows leaf x n = refused _ (λ c. n (c x).narrow)

pub nonzero : (rows : List Row) (leaf : List (ℕ × ℤ)) (x : ℕ) (s : ℤ) → s ≡ column_sum (coefficient_of x) rows (pos 0) leaf → (s ≡ pos 0 → ⊥) → IsTrue false ↔ ((y : ℕ) → Cancels rows leaf y)
nonzero rows leaf x s e n = refused _ (λ c. n (e ∙ (c x).zero_sum))

pub more : (rows : List Row) (leaf : List (ℕ × ℤ)) (low x : ℕ) (s : ℤ) → ((y : ℕ) → y < low → Cancels rows leaf y) → IsNextFrom low rows leaf (Some x) → IsNarrow (coefficient_of x) rows leaf → s ≡ column_sum (coefficient_of x) rows (pos 0) leaf → s ≡ pos 0 → (y : ℕ) → y < x + 1 → Cancels rows leaf y
more rows leaf low x s c n w e z y h = elim (cases_lt y low) [
  | inl below ↦ c y below
  | inr from ↦ elim (cases_lt y x) [
    | inl before ↦ absent-cancels y rows leaf (n.1 y from before)
    | inr last ↦
        let d : x ≡ y = omega arith in
        subst (Cancels rows leaf) d (record { narrow = w; zero_sum = sym e ∙ z })
  ]
]

pub all : (rows : List Row) (leaf : List (ℕ × ℤ)) (low : ℕ) → ((y : ℕ) → y < low → Cancels rows leaf y) → IsNextFrom low rows leaf None → IsTrue true ↔ ((y : ℕ) → Cancels rows leaf y)
all rows leaf low c n = accepted _ (λ y. elim (cases_lt y low) [ inl below ↦ c y below | inr from ↦ absent-cancels y rows leaf (n y from) ])
