-- What the results and the parts of an operation on terms make of the whole.
use Rattle.std.proofs.Common.{◌≡◌, ℕ, ℤ, ◌+ℤ◌, ◌*ℤ◌, List, [], ◌∷◌, ◌++◌, refl, ◌∙◌, None}
use Rattle.std.specs.Prelude.{Result}
use Rattle.cap_lin.specs.Linear.{Linear, merged, sums, plus, multiples, times, negative, minus}
use Rattle.cap_lin.specs.Steps.{sum_of, product_of, first_wide, sums_steps, plus_steps, multiples_steps, times_steps, negative_steps, minus_steps}
use Rattle.cap_lin.specs.Exact.{Explains, IsExact}
use Rattle.cap_lin.specs.declared.error.LinError.{LinError}
use Rattle.cap_lin.proofs.Results.{first-narrow, explains_first, explains_later, exact_after}

plus_steps-is : (s t : Linear) → plus_steps s t ≡ (sum_of s.constant t.constant ∷ []) ++ sums_steps (merged s.parts t.parts)
unfolding plus_steps
plus_steps-is s t = refl

pub plus-first : (s t : Linear) (e : LinError) (a b : ℤ) → a ≡ s.constant → b ≡ t.constant → Explains e (sum_of a b ∷ []) → Explains e (plus_steps s t)
plus-first s t e a b d f x = let y : Explains e (sum_of s.constant t.constant ∷ []) = rw (← d, ← f) x in rw plus_steps-is (explains_first e _ _ y)

pub plus-later : (s t : Linear) (e : LinError) (a b : ℤ) (ps qs : List (ℕ × ℤ)) → a ≡ s.constant → b ≡ t.constant → ps ≡ s.parts → qs ≡ t.parts → first_wide (sum_of a b ∷ []) ≡ None → Explains e (sums_steps (merged ps qs)) → Explains e (plus_steps s t)
plus-later s t e a b ps qs d f g h n x =
    let m : first_wide (sum_of s.constant t.constant ∷ []) ≡ None = rw (← d, ← f) n in
    let y : Explains e (sums_steps (merged s.parts t.parts)) = rw (← g, ← h) x in
    rw plus_steps-is (explains_later e _ _ m y)

pub plus-narrow : (s t : Linear) (a b : ℤ) (ps qs : List (ℕ × ℤ)) → a ≡ s.constant → b ≡ t.constant → ps ≡ s.parts → qs ≡ t.parts → first_wide (sum_of a b ∷ []) ≡ None → first_wide (sums_steps (merged ps qs)) ≡ None → first_wide (plus_steps s t) ≡ None
plus-narrow s t a b ps qs d f g h n x =
    let m : first_wide (sum_of s.constant t.constant ∷ []) ≡ None = rw (← d, ← f) n in
    rw (plus_steps-is, ← g, ← h) (first-narrow _ _ m ∙ x)

pub plus-made : (s t : Linear) (a b r : ℤ) (ps qs rs : List (ℕ × ℤ)) → a ≡ s.constant → b ≡ t.constant → ps ≡ s.parts → qs ≡ t.parts → r ≡ a +ℤ b → rs ≡ sums (merged ps qs) → ◌≡◌ {A = Linear} (record { constant = r; parts = rs }) (plus s t)
unfolding plus
plus-made s t a b r ps qs rs d f g h i j = rw (i, j, d, f, g, h) refl

times_steps-is : (k : ℤ) (t : Linear) → times_steps k t ≡ (product_of k t.constant ∷ []) ++ multiples_steps k t.parts
unfolding times_steps
times_steps-is k t = refl

pub times-first : (k : ℤ) (t : Linear) (e : LinError) (a b : ℤ) → a ≡ k → b ≡ t.constant → Explains e (product_of a b ∷ []) → Explains e (times_steps k t)
times-first k t e a b d f x = let y : Explains e (product_of k t.constant ∷ []) = rw (← d, ← f) x in rw times_steps-is (explains_first e _ _ y)

pub times-later : (k : ℤ) (t : Linear) (e : LinError) (a b : ℤ) (ps : List (ℕ × ℤ)) → a ≡ k → b ≡ t.constant → ps ≡ t.parts → first_wide (product_of a b ∷ []) ≡ None → Explains e (multiples_steps a ps) → Explains e (times_steps k t)
times-later k t e a b ps d f g n x =
    let m : first_wide (product_of k t.constant ∷ []) ≡ None = rw (← d, ← f) n in
    let y : Explains e (multiples_steps k t.parts) = rw (← d, ← g) x in
    rw times_steps-is (explains_later e _ _ m y)

pub times-narrow : (k : ℤ) (t : Linear) (a b : ℤ) (ps : List (ℕ × ℤ)) → a ≡ k → b ≡ t.constant → ps ≡ t.parts → first_wide (product_of a b ∷ []) ≡ None → first_wide (multiples_steps a ps) ≡ None → first_wide (times_steps k t) ≡ None
times-narrow k t a b ps d f g n x =
    let m : first_wide (product_of k t.constant ∷ []) ≡ None = rw (← d, ← f) n in
    let y : first_wide (multiples_steps k t.parts) ≡ None = rw (← d, ← g) x in
    rw times_steps-is (first-narrow _ _ m ∙ y)

pub times-made : (k : ℤ) (t : Linear) (a b r : ℤ) (ps rs : List (ℕ × ℤ)) → a ≡ k → b ≡ t.constant → ps ≡ t.parts → r ≡ a *ℤ b → rs ≡ multiples a ps → ◌≡◌ {A = Linear} (record { constant = r; parts = rs }) (times k t)
unfolding times
times-made k t a b r ps rs d f g i j = rw (i, j, d, f, g) refl

pub minus-first : (s t : Linear) (e : LinError) → Explains e (negative_steps t) → Explains e (minus_steps s t)
unfolding minus_steps
minus-first s t e h = explains_first e _ _ h

pub minus-after : (r : Result Linear LinError) (s t : Linear) → first_wide (negative_steps t) ≡ None → IsExact r (plus_steps s (negative t)) (minus s t) → IsExact r (minus_steps s t) (minus s t)
unfolding minus_steps
minus-after r s t n h = exact_after r _ _ _ n h
