-- The loop that adds up a column: each lemma is one way through it.
use Rattle.std.proofs.Common.{◌≡◌, ℕ, suc, ℤ, ◌+ℤ◌, ◌*ℤ◌, List, [], ◌∷◌, ◌+◌, ◌<◌, ◌≤◌, length, get_or, drop, add-one, refl, drop-cons, sym, ◌∙◌, Option, None, FitsSigned}
use Rattle.std.proofs.lemmas.List.{drop_all}
use mir.Syntax.{w128}
use Rattle.cap_lin.specs.Linear.{Linear}
use Rattle.cap_lin.specs.Steps.{sum_of, product_of, first_wide}
use Rattle.cap_lin.specs.declared.row.Row.{Row}
use Rattle.cap_lin.proofs.Results.{product-fits, sum-fits, product-narrow, sum-narrow, first_wide-nil}
use Rattle.cap_lin.proofs.Merge.{no_part}
use Rattle.cap_farkas.specs.Farkas.{row_at, column_sum, column_steps}

steps-cons : (of : Linear → ℤ) (rows : List Row) (s : ℤ) (p : ℕ × ℤ) (ps : List (ℕ × ℤ)) → column_steps of rows s (p ∷ ps) ≡ product_of p.1 (of (row_at rows p.0).term) ∷ (sum_of s (p.1 *ℤ of (row_at rows p.0).term) ∷ column_steps of rows (s +ℤ p.1 *ℤ of (row_at rows p.0).term) ps)
unfolding column_steps
steps-cons of rows s p ps = refl

steps-nil : (of : Linear → ℤ) (rows : List Row) (s : ℤ) → column_steps of rows s [] ≡ []
unfolding column_steps
steps-nil of rows s = refl

sum-cons : (of : Linear → ℤ) (rows : List Row) (s : ℤ) (p : ℕ × ℤ) (ps : List (ℕ × ℤ)) → column_sum of rows s (p ∷ ps) ≡ column_sum of rows (s +ℤ p.1 *ℤ of (row_at rows p.0).term) ps
unfolding column_sum
sum-cons of rows s p ps = refl

sum-nil : (of : Linear → ℤ) (rows : List Row) (s : ℤ) → column_sum of rows s [] ≡ s
unfolding column_sum
sum-nil of rows s = refl

pub stops_at_product : (of : Linear → ℤ) (rows : List Row) (leaf : List (ℕ × ℤ)) (i : ℕ) (s m z : ℤ) (whole : Option (ℤ × ℤ)) → i < length leaf → m ≡ (get_or leaf i no_part).1 → z ≡ of (row_at rows (get_or leaf i no_part).0).term → (FitsSigned w128 (m *ℤ z) → ⊥) → first_wide (column_steps of rows s (drop i leaf)) ≡ whole → whole ≡ None → ⊥
stops_at_product of rows leaf i s m z whole h d f n w k =
    let x = drop-cons leaf i no_part h in
    let v = rw (x, steps-cons) at (w ∙ k) in
    n (rw (d, f) (product-narrow _ _ (sum_of s _ ∷ column_steps of rows _ (drop (suc i) leaf)) v))

pub stops_at_sum : (of : Linear → ℤ) (rows : List Row) (leaf : List (ℕ × ℤ)) (i : ℕ) (s m z p a : ℤ) (whole : Option (ℤ × ℤ)) → i < length leaf → m ≡ (get_or leaf i no_part).1 → z ≡ of (row_at rows (get_or leaf i no_part).0).term → FitsSigned w128 (m *ℤ z) → p ≡ m *ℤ z → a ≡ s → (FitsSigned w128 (a +ℤ p) → ⊥) → first_wide (column_steps of rows s (drop i leaf)) ≡ whole → whole ≡ None → ⊥
stops_at_sum of rows leaf i s m z p a whole h d f g q b n w k =
    let x = drop-cons leaf i no_part h in
    let v = rw (x, steps-cons) at (w ∙ k) in
    let y : FitsSigned w128 ((get_or leaf i no_part).1 *ℤ of (row_at rows (get_or leaf i no_part).0).term) = rw (← d, ← f) g in
    let u = sym (product-fits _ _ (sum_of s ((get_or leaf i no_part).1 *ℤ of (row_at rows (get_or leaf i no_part).0).term) ∷ column_steps of rows (s +ℤ (get_or leaf i no_part).1 *ℤ of (row_at rows (get_or leaf i no_part).0).term) (drop (suc i) leaf)) y) ∙ v in
    n (rw (b, q, d, f) (sum-narrow s ((get_or leaf i no_part).1 *ℤ of (row_at rows (get_or leaf i no_part).0).term) (column_steps of rows (s +ℤ (get_or leaf i no_part).1 *ℤ of (row_at rows (get_or leaf i no_part).0).term) (drop (suc i) leaf)) u))

pub goes_on : (of : Linear → ℤ) (rows : List Row) (leaf : List (ℕ × ℤ)) (i : ℕ) (s m z p a r : ℤ) (whole : Option (ℤ × ℤ)) → i < length leaf → m ≡ (get_or leaf i no_part).1 → z ≡ of (row_at rows (get_or leaf i no_part).0).term → FitsSigned w128 (m *ℤ z) → p ≡ m *ℤ z → a ≡ s → FitsSigned w128 (a +ℤ p) → r ≡ a +ℤ p → first_wide (column_steps of rows s (drop i leaf)) ≡ whole → first_wide (column_steps of rows r (drop (i + 1) leaf)) ≡ whole
goes_on of rows leaf i s m z p a r whole h d f g q b t j w =
    let x = drop-cons leaf i no_part h in
    let y : FitsSigned w128 ((get_or leaf i no_part).1 *ℤ of (row_at rows (get_or leaf i no_part).0).term) = rw (← d, ← f) g in
    let u : FitsSigned w128 (s +ℤ (get_or leaf i no_part).1 *ℤ of (row_at rows (get_or leaf i no_part).0).term) = rw (← b, ← d, ← f, ← q) t in
    rw (add-one, j, b, q, d, f) (sym (product-fits _ _ _ y ∙ sum-fits _ _ _ u) ∙ (rw (x, steps-cons) at w))

pub adds : (of : Linear → ℤ) (rows : List Row) (leaf : List (ℕ × ℤ)) (i : ℕ) (s m z p a r whole : ℤ) → i < length leaf → m ≡ (get_or leaf i no_part).1 → z ≡ of (row_at rows (get_or leaf i no_part).0).term → p ≡ m *ℤ z → a ≡ s → r ≡ a +ℤ p → column_sum of rows s (drop i leaf) ≡ whole → column_sum of rows r (drop (i + 1) leaf) ≡ whole
adds of rows leaf i s m z p a r whole h d f q b j w = let x = drop-cons leaf i no_part h in rw (add-one, j, b, q, d, f) (rw (x, sum-cons) at w)

pub narrow : (of : Linear → ℤ) (rows : List Row) (leaf : List (ℕ × ℤ)) (i : ℕ) (s : ℤ) (whole : Option (ℤ × ℤ)) → length leaf ≤ i → first_wide (column_steps of rows s (drop i leaf)) ≡ whole → whole ≡ None
narrow of rows leaf i s whole h w = let x = drop_all i leaf h in sym (rw (x, steps-nil, first_wide-nil) at w)

pub done : (of : Linear → ℤ) (rows : List Row) (leaf : List (ℕ × ℤ)) (i : ℕ) (s whole : ℤ) → length leaf ≤ i → column_sum of rows s (drop i leaf) ≡ whole → s ≡ whole
done of rows leaf i s whole h w = let x = drop_all i leaf h in rw (x, sum-nil) at w
