-- Rows by their numbers among those that arose, and marks of those that are present.
use Rattle.std.proofs.Common.{◌≡◌, ℕ, ◌+◌, ◌<◌, List, [], ◌∷◌, ◌++◌, length, not, cond, arith, refl, sym, ap, ◌∙◌, ◌⊎◌, inl, inr, Bool, true, false}
use Rattle.std.specs.Prelude.{◌||◌}
use Rattle.cap_lin.specs.Linear.{Linear, same_term}
use Rattle.cap_lin.specs.Laws.Sameness.{same_term-decides}
use Rattle.cap_lin.specs.declared.row.Kind.{Kind}
use Rattle.cap_lin.specs.declared.row.Kind.TheVariants.{Le, Lt, Eq, Ne}
use Rattle.cap_fm_spec.specs.Rows.{same_kind, same_row, has_arisen}
use Rattle.cap_fm_elimination.specs.Views.{row_number}
use Rattle.cap_fm_spec.proofs.Arising.{both-true, same-kind}
use Rattle.cap_fm_elimination.proofs.Booleans.{true_or_false, or-later, or-none}

-- ---- equal rows

kind-self : (k : Kind) → same_kind k k ≡ true
kind-self Le = refl
kind-self Lt = refl
kind-self Eq = refl
kind-self Ne = refl

pub row-is : (t : Linear) (k : Kind) (u : Linear) (l : Kind) → same_row t k u l ≡ true → (t ≡ u) × (k ≡ l)
row-is t k u l e = let h = both-true (same_kind k l) (same_term t u) e in ((same_term-decides t u).0 h.1, same-kind k l h.0)

pub row-self : (t : Linear) (k : Kind) → same_row t k t k ≡ true
row-self t k = rw (kind-self k, (same_term-decides t t).1 refl) refl

pub row-same : (t : Linear) (k : Kind) (u : Linear) (l : Kind) → t ≡ u → k ≡ l → same_row t k u l ≡ true
row-same t k u l p q = rw (p, q) (row-self u l)

-- ---- numbers

-- the number by what the first row is
first-number : (b : Bool) (n : ℕ) → b ≡ true → cond (not b) (1 + n) 0 ≡ 0
first-number true n e = refl
first-number false n e = cc

later-number : (b : Bool) (n : ℕ) → b ≡ false → cond (not b) (1 + n) 0 ≡ 1 + n
later-number true n e = cc
later-number false n e = refl

pub number-first : (t : Linear) (k : Kind) (r : Linear × Kind) (rows : List (Linear × Kind)) → same_row t k r.0 r.1 ≡ true → row_number t k (r ∷ rows) ≡ 0
number-first t k r rows e = first-number (same_row t k r.0 r.1) (row_number t k rows) e

pub number-later : (t : Linear) (k : Kind) (r : Linear × Kind) (rows : List (Linear × Kind)) → same_row t k r.0 r.1 ≡ false → row_number t k (r ∷ rows) ≡ 1 + row_number t k rows
number-later t k r rows e = later-number (same_row t k r.0 r.1) (row_number t k rows) e

pub number-below : (t : Linear) (k : Kind) (rows : List (Linear × Kind)) → has_arisen t k rows ≡ true → row_number t k rows < length rows
number-below t k [] h = cc
number-below t k (r ∷ rows) h = elim (true_or_false (same_row t k r.0 r.1)) [
  | inl e ↦ let n = number-first t k r rows e in omega arith
  | inr e ↦ let n = number-later t k r rows e in let m = number-below t k rows (or-later _ _ e h) in omega arith
]

-- equal numbers are of equal rows
pub number-one : (t : Linear) (k : Kind) (u : Linear) (l : Kind) (rows : List (Linear × Kind)) → has_arisen t k rows ≡ true → row_number t k rows ≡ row_number u l rows → same_row t k u l ≡ true
number-one t k u l [] h e = cc
number-one t k u l (r ∷ rows) h e = elim (true_or_false (same_row t k r.0 r.1)) [
  | inl p ↦ elim (true_or_false (same_row u l r.0 r.1)) [
    | inl q ↦ let f = row-is t k r.0 r.1 p in let g = row-is u l r.0 r.1 q in row-same t k u l (f.0 ∙ sym g.0) (f.1 ∙ sym g.1)
    | inr q ↦ let m = number-first t k r rows p in let n = number-later u l r rows q in absurd (omega arith)
  ]
  | inr p ↦ elim (true_or_false (same_row u l r.0 r.1)) [
    | inl q ↦ let m = number-later t k r rows p in let n = number-first u l r rows q in absurd (omega arith)
    | inr q ↦ let m = number-later t k r rows p in let n = number-later u l r rows q in number-one t k u l rows (or-later _ _ p h) (omega arith)
  ]
]

-- one more row behind the others
pub arisen-kept : (t : Linear) (k : Kind) (rows : List (Linear × Kind)) (r : Linear × Kind) → has_arisen t k rows ≡ true → (has_arisen t k (rows ++ (r ∷ [])) ≡ true) × (row_number t k (rows ++ (r ∷ [])) ≡ row_number t k rows)
arisen-kept t k [] r h = cc
arisen-kept t k (s ∷ rows) r h = elim (true_or_false (same_row t k s.0 s.1)) [
  | inl e ↦ (ap (λ b. b || has_arisen t k (rows ++ (r ∷ []))) e, number-first t k s (rows ++ (r ∷ [])) e ∙ sym (number-first t k s rows e))
  | inr e ↦
      let i = arisen-kept t k rows r (or-later _ _ e h) in
      (ap (λ b. b || has_arisen t k (rows ++ (r ∷ []))) e ∙ i.0, number-later t k s (rows ++ (r ∷ [])) e ∙ ap (λ n. 1 + n) i.1 ∙ sym (number-later t k s rows e))
]

-- a row that is new is the last
pub arisen-new : (t : Linear) (k : Kind) (rows : List (Linear × Kind)) → has_arisen t k rows ≡ false → (has_arisen t k (rows ++ ((t, k) ∷ [])) ≡ true) × (row_number t k (rows ++ ((t, k) ∷ [])) ≡ length rows)
arisen-new t k [] h = let e = row-self t k in (ap (λ b. b || false) e, number-first t k (t, k) [] e)
arisen-new t k (s ∷ rows) h =
    let n = or-none (same_row t k s.0 s.1) (has_arisen t k rows) h in
    let i = arisen-new t k rows n.1 in
    (ap (λ b. b || has_arisen t k (rows ++ ((t, k) ∷ []))) n.0 ∙ i.0, let a = number-later t k s (rows ++ ((t, k) ∷ [])) n.0 in let b = i.1 in omega arith)

-- a row that has arisen with one more is that one, or arose before
pub arisen-split : (t : Linear) (k : Kind) (rows : List (Linear × Kind)) (r : Linear × Kind) → has_arisen t k (rows ++ (r ∷ [])) ≡ true → (has_arisen t k rows ≡ true) ⊎ (same_row t k r.0 r.1 ≡ true)
arisen-split t k [] r h = elim (true_or_false (same_row t k r.0 r.1)) [ inl e ↦ inr e | inr e ↦ absurd (cc) ]
arisen-split t k (s ∷ rows) r h = elim (true_or_false (same_row t k s.0 s.1)) [
  | inl e ↦ inl (ap (λ b. b || has_arisen t k rows) e)
  | inr e ↦ elim (arisen-split t k rows r (or-later _ _ e h)) [ inl a ↦ inl (ap (λ b. b || has_arisen t k rows) e ∙ a) | inr b ↦ inr b ]
]
