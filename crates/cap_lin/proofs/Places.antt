-- Places in ascending parts, and the coefficients found there.
use Rattle.std.proofs.Common.{◌≡◌, ℕ, zero, suc, ℤ, pos, ◌+ℤ◌, List, [], ◌∷◌, ◌++◌, ◌<◌, ◌≤◌, ◌+◌, length, get_or, arith, refl, sym, ◌∙◌, true, false, Some, None, ◌⊎◌, inl, inr}
use Rattle.std.specs.Prelude.{◌==◌}
use Rattle.std.proofs.lemmas.Bool.{cases_lt}
use Rattle.std.proofs.lemmas.Bool.Decides.{nat_tests}
use Rattle.std.proofs.lemmas.Int.{ints}
use Rattle.cap_lin.specs.Linear.{AscendFrom, coefficient, parts_without, IsLeastFrom, IsPlaceFrom}
use Rattle.cap_lin.proofs.Merge.{no_part}

pub coefficient-same : (x : ℕ) (p : ℕ × ℤ) (ps : List (ℕ × ℤ)) → p.0 ≡ x → coefficient x (p ∷ ps) ≡ p.1 +ℤ coefficient x ps
unfolding coefficient
coefficient-same x p ps e = let t : (p.0 == x) ≡ true = grind (arith, nat_tests) in rw t refl

pub coefficient-other : (x : ℕ) (p : ℕ × ℤ) (ps : List (ℕ × ℤ)) → (p.0 ≡ x → ⊥) → coefficient x (p ∷ ps) ≡ coefficient x ps
unfolding coefficient
coefficient-other x p ps n = let t : (p.0 == x) ≡ false = grind (arith, nat_tests) in rw t refl

pub coefficient-nil : (x : ℕ) → coefficient x [] ≡ pos 0
unfolding coefficient
coefficient-nil x = refl

absent : (x : ℕ) (ps : List (ℕ × ℤ)) → ((k : ℕ) → k < length ps → (get_or ps k no_part).0 ≡ x → ⊥) → coefficient x ps ≡ pos 0
absent x [] h = coefficient-nil x
absent x (p ∷ ps) h = coefficient-other x p ps (h 0 (omega arith)) ∙ absent x ps (λ k l. h (suc k) (omega arith))

from : (low : ℕ) (ps : List (ℕ × ℤ)) (k : ℕ) → AscendFrom low ps → k < length ps → low ≤ (get_or ps k no_part).0
from low [] k a l = absurd (omega arith)
from low (p ∷ ps) zero a l = a.0
from low (p ∷ ps) (suc k) a l = let h = from (p.0 + 1) ps k a.2 (omega arith) in let b = a.0 in omega arith

present : (low x : ℕ) (ps : List (ℕ × ℤ)) (i : ℕ) → AscendFrom low ps → i < length ps → (get_or ps i no_part).0 ≡ x → coefficient x ps ≡ (get_or ps i no_part).1
present low x [] i a l e = absurd (omega arith)
present low x (p ∷ ps) zero a l e =
    let z : coefficient x ps ≡ pos 0 = absent x ps (λ k h d. let b = from (p.0 + 1) ps k a.2 h in absurd (omega arith)) in
    coefficient-same x p ps e ∙ rw z (omega (arith, ints))
present low x (p ∷ ps) (suc i) a l e =
    let b = from (p.0 + 1) ps i a.2 (omega arith) in
    coefficient-other x p ps (λ d. absurd (omega arith)) ∙ present (p.0 + 1) x ps i a.2 (omega arith) e

nonzero : (low : ℕ) (ps : List (ℕ × ℤ)) (i : ℕ) → AscendFrom low ps → i < length ps → (get_or ps i no_part).1 ≡ pos 0 → ⊥
nonzero low [] i a l e = absurd (omega arith)
nonzero low (p ∷ ps) zero a l e = a.1 e
nonzero low (p ∷ ps) (suc i) a l e = nonzero (p.0 + 1) ps i a.2 (omega arith) e

ordered : (low : ℕ) (ps : List (ℕ × ℤ)) (i j : ℕ) → AscendFrom low ps → i ≤ j → j < length ps → (get_or ps i no_part).0 ≤ (get_or ps j no_part).0
ordered low [] i j a h l = absurd (omega arith)
ordered low (p ∷ ps) zero zero a h l = omega arith
ordered low (p ∷ ps) zero (suc j) a h l = let b = from (p.0 + 1) ps j a.2 (omega arith) in omega arith
ordered low (p ∷ ps) (suc i) zero a h l = absurd (omega arith)
ordered low (p ∷ ps) (suc i) (suc j) a h l = ordered (p.0 + 1) ps i j a.2 (omega arith) (omega arith)

-- ---- the search for a place

pub raised : (low : ℕ) (ps : List (ℕ × ℤ)) (m : ℕ) → AscendFrom 0 ps → m < length ps → (get_or ps m no_part).0 < low → (k : ℕ) → k < m + 1 → (get_or ps k no_part).0 < low
raised low ps m a l h k i = let b = ordered 0 ps k m a (omega arith) l in omega arith

pub lowered : (low : ℕ) (ps : List (ℕ × ℤ)) (m : ℕ) → AscendFrom 0 ps → low ≤ (get_or ps m no_part).0 → (k : ℕ) → m ≤ k → k < length ps → low ≤ (get_or ps k no_part).0
lowered low ps m a h k i l = let b = ordered 0 ps m k a i l in omega arith

-- ---- what stands there

pub at_place : (x : ℕ) (ps : List (ℕ × ℤ)) (i : ℕ) → AscendFrom 0 ps → i < length ps → (get_or ps i no_part).0 ≡ x → coefficient x ps ≡ (get_or ps i no_part).1
at_place x ps i a l e = present 0 x ps i a l e

pub past_place : (x : ℕ) (ps : List (ℕ × ℤ)) (i : ℕ) → AscendFrom 0 ps → IsPlaceFrom x ps i → (i < length ps → (get_or ps i no_part).0 ≡ x → ⊥) → coefficient x ps ≡ pos 0
past_place x ps i a p n = absent x ps differs
  where
    differs : (k : ℕ) → k < length ps → (get_or ps k no_part).0 ≡ x → ⊥
    differs k l e = elim (cases_lt k i) [
      | inl lt ↦ let b = p.below k lt in absurd (omega arith)
      | inr ge ↦
          let b = ordered 0 ps i k a ge l in
          let d = p.above i (omega arith) (omega arith) in
          n (omega arith) (omega arith)
    ]

pub least : (low : ℕ) (ps : List (ℕ × ℤ)) (i : ℕ) → AscendFrom 0 ps → IsPlaceFrom low ps i → i < length ps → IsLeastFrom low ps (Some (get_or ps i no_part).0)
least low ps i a p l =
    (p.above i (omega arith) l, λ e. nonzero 0 ps i a l (sym (present 0 _ ps i a l refl) ∙ e), λ x g h. absent x ps (differs x g h))
  where
    differs : (x : ℕ) → low ≤ x → x < (get_or ps i no_part).0 → (k : ℕ) → k < length ps → (get_or ps k no_part).0 ≡ x → ⊥
    differs x g h k m e = elim (cases_lt k i) [
      | inl lt ↦ let b = p.below k lt in absurd (omega arith)
      | inr ge ↦ let b = ordered 0 ps i k a ge m in absurd (omega arith)
    ]

pub no_least : (low : ℕ) (ps : List (ℕ × ℤ)) (i : ℕ) → IsPlaceFrom low ps i → length ps ≤ i → IsLeastFrom low ps None
no_least low ps i p l = λ x g. absent x ps (λ k m e. let b = p.below k (omega arith) in absurd (omega arith))

-- ---- sums of lists of parts, and parts without a variable

pub without-same : (x : ℕ) (p : ℕ × ℤ) (ps : List (ℕ × ℤ)) → p.0 ≡ x → parts_without x (p ∷ ps) ≡ parts_without x ps
without-same x p ps e = let t : (p.0 == x) ≡ true = grind (arith, nat_tests) in rw t refl

pub without-other : (x : ℕ) (p : ℕ × ℤ) (ps : List (ℕ × ℤ)) → (p.0 ≡ x → ⊥) → parts_without x (p ∷ ps) ≡ p ∷ parts_without x ps
without-other x p ps n = let t : (p.0 == x) ≡ false = grind (arith, nat_tests) in rw t refl

pub tested : (x y : ℕ) → (x ≡ y) ⊎ (x ≡ y → ⊥)
tested x y = elim (cases_lt x y) [
  | inl lt ↦ inr (λ e. absurd (omega arith))
  | inr ge ↦ elim (cases_lt y x) [ inl gt ↦ inr (λ e. absurd (omega arith)) | inr le ↦ inl (omega arith) ]
]

pub coefficient-append : (x : ℕ) (ps qs : List (ℕ × ℤ)) → coefficient x (ps ++ qs) ≡ coefficient x ps +ℤ coefficient x qs
coefficient-append x [] qs = rw (coefficient-nil x) (omega (arith, ints))
coefficient-append x (p ∷ ps) qs =
    let ih = coefficient-append x ps qs in
    elim (tested p.0 x) [
      | inl s ↦ rw (coefficient-same x p (ps ++ qs) s, coefficient-same x p ps s, ih) (omega (arith, ints))
      | inr d ↦ rw (coefficient-other x p (ps ++ qs) d, coefficient-other x p ps d, ih) refl
    ]

none-left : (x : ℕ) (ps : List (ℕ × ℤ)) → coefficient x (parts_without x ps) ≡ pos 0
none-left x [] = coefficient-nil x
none-left x (p ∷ ps) =
    let ih = none-left x ps in
    elim (tested p.0 x) [
      | inl s ↦ rw (without-same x p ps s) ih
      | inr d ↦ rw (without-other x p ps d, coefficient-other x p (parts_without x ps) d) ih
    ]

others-stay : (x y : ℕ) (ps : List (ℕ × ℤ)) → (y ≡ x → ⊥) → coefficient y (parts_without x ps) ≡ coefficient y ps
others-stay x y [] n = refl
others-stay x y (p ∷ ps) n =
    let ih = others-stay x y ps n in
    elim (tested p.0 x) [
      | inl s ↦ rw (without-same x p ps s, coefficient-other y p ps (λ e. n (sym e ∙ s))) ih
      | inr d ↦ rw (without-other x p ps d) (elim (tested p.0 y) [
        | inl t ↦ rw (coefficient-same y p (parts_without x ps) t, coefficient-same y p ps t, ih) refl
        | inr f ↦ rw (coefficient-other y p (parts_without x ps) f, coefficient-other y p ps f) ih
      ])
    ]

pub coefficient-without : (x y : ℕ) (ps : List (ℕ × ℤ)) → coefficient y ps ≡ pos 0 → coefficient y (parts_without x ps) ≡ pos 0
coefficient-without x y ps z = elim (tested y x) [ inl s ↦ rw s (none-left x ps) | inr d ↦ others-stay x y ps d ∙ z ]

without-length : (x : ℕ) (ps : List (ℕ × ℤ)) → length (parts_without x ps) ≤ length ps
without-length x [] = omega arith
without-length x (p ∷ ps) =
    let ih = without-length x ps in
    elim (tested p.0 x) [
      | inl s ↦ rw (without-same x p ps s) (omega arith)
      | inr d ↦ rw (without-other x p ps d) (omega arith)
    ]

pub without-shorter : (p : ℕ × ℤ) (ps : List (ℕ × ℤ)) → length (parts_without p.0 (p ∷ ps)) < length (p ∷ ps)
without-shorter p ps = let l = without-length p.0 ps in rw (without-same p.0 p ps refl) (omega arith)

-- a coefficient is 0, or that of a part
pub coefficient-or : (x : ℕ) (ps : List (ℕ × ℤ)) → AscendFrom 0 ps → (coefficient x ps ≡ pos 0) ⊎ ((k : ℕ) × ((k < length ps) × (coefficient x ps ≡ (get_or ps k no_part).1)))
coefficient-or x ps a = go 0 ps a
  where
    go : (low : ℕ) (qs : List (ℕ × ℤ)) → AscendFrom low qs → (coefficient x qs ≡ pos 0) ⊎ ((k : ℕ) × ((k < length qs) × (coefficient x qs ≡ (get_or qs k no_part).1)))
    go low [] a = inl (coefficient-nil x)
    go low (q ∷ qs) a = elim (tested q.0 x) [
      | inl s ↦ inr (0, (omega arith, present low x (q ∷ qs) 0 a (omega arith) s))
      | inr d ↦ elim (go (q.0 + 1) qs a.2) [
        | inl z ↦ inl (coefficient-other x q qs d ∙ z)
        | inr p ↦ let l = p.1.0 in inr (suc p.0, (omega arith, coefficient-other x q qs d ∙ p.1.1))
      ]
    ]
