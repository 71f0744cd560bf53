-- The values of sums, multiples and replacements.
use Rattle.std.proofs.Common.{◌≡◌, ℕ, zero, suc, ℤ, pos, negsuc, ◌+ℤ◌, ◌*ℤ◌, List, [], ◌∷◌, arith, refl, sym, ap, ◌∙◌, ◌⊎◌, inl, inr, map, true, false}
use Rattle.std.specs.Prelude.{◌==◌, if◌then◌else◌}
use Rattle.std.proofs.lemmas.Bool.{cases_lt}
use Rattle.std.proofs.lemmas.Bool.Decides.{nat_tests}
use Rattle.std.proofs.lemmas.Int.{ints}
use Rattle.cap_numbers.proofs.Ring.{expand, product3}
use Rattle.cap_lin.specs.Linear.{Linear, merged, only_right, put_part, sums, plus, multiples, times, coefficient, parts_without, without, replaced}
use Rattle.cap_lin.specs.Values.{RationalValuation, parts_value, value, amount, changed}
use Rattle.cap_lin.specs.declared.term.Pair.{Pair}
use Rattle.cap_lin.proofs.Merge.{merged-lt, merged-gt, merged-eq, merged-left}
use Rattle.cap_lin.proofs.Places.{coefficient-same, coefficient-other, coefficient-nil, without-same, without-other, tested}
use Rattle.cap_lin.proofs.Replace.{replaced-none, replaced-some}

pub value-nil : (n : ℕ → ℤ) → parts_value n [] ≡ pos 0
unfolding parts_value
value-nil n = refl

pub value-cons : (n : ℕ → ℤ) (p : ℕ × ℤ) (ps : List (ℕ × ℤ)) → parts_value n (p ∷ ps) ≡ p.1 *ℤ n p.0 +ℤ parts_value n ps
unfolding parts_value
value-cons n p ps = refl

pub put-value : (n : ℕ → ℤ) (x : ℕ) (k : ℤ) (ps : List (ℕ × ℤ)) → parts_value n (put_part x k ps) ≡ k *ℤ n x +ℤ parts_value n ps
unfolding parts_value
put-value n x (pos zero) ps = omega (arith, ints)
put-value n x (pos (suc k)) ps = refl
put-value n x (negsuc k) ps = refl

sums-value : (n : ℕ → ℤ) (j : Pair) (js : List Pair) → parts_value n (sums (j ∷ js)) ≡ (j.left +ℤ j.right) *ℤ n j.variable +ℤ parts_value n (sums js)
unfolding sums
sums-value n j js = put-value n j.variable (j.left +ℤ j.right) (sums js)

right-value : (n : ℕ → ℤ) (qs : List (ℕ × ℤ)) → parts_value n (sums (map only_right qs)) ≡ parts_value n qs
unfolding sums
right-value n [] = refl
right-value n (q ∷ qs) = let ih = right-value n qs in rw (put-value, value-cons, ih) (simp expand (omega (arith, ints)))

nil-value : (n : ℕ → ℤ) (qs : List (ℕ × ℤ)) → parts_value n (sums (merged [] qs)) ≡ parts_value n [] +ℤ parts_value n qs
unfolding merged
nil-value n qs = rw (right-value n qs, value-nil n) (omega (arith, ints))

cons-value : (n : ℕ → ℤ) (p : ℕ × ℤ) (ps : List (ℕ × ℤ)) → ((qs : List (ℕ × ℤ)) → parts_value n (sums (merged ps qs)) ≡ parts_value n ps +ℤ parts_value n qs) → (qs : List (ℕ × ℤ)) → parts_value n (sums (merged (p ∷ ps) qs)) ≡ parts_value n (p ∷ ps) +ℤ parts_value n qs
cons-value n p ps ih [] = rw (merged-left p ps, sums-value, ih [], value-cons n p ps) (simp expand (omega (arith, ints)))
cons-value n p ps ih (q ∷ qs) =
    elim (cases_lt p.0 q.0) [
      | inl lt ↦ rw (merged-lt p q ps qs lt, sums-value, ih (q ∷ qs), value-cons n p ps) (simp expand (omega (arith, ints)))
      | inr ge ↦ elim (cases_lt q.0 p.0) [
        | inl gt ↦ rw (merged-gt p q ps qs gt, sums-value, cons-value n p ps ih qs, value-cons n q qs) (simp expand (omega (arith, ints)))
        | inr le ↦
            let e : q.0 ≡ p.0 = omega arith in
            rw (merged-eq p q ps qs ge le, sums-value, ih qs, value-cons n p ps, value-cons n q qs, e) (simp expand (omega (arith, ints)))
      ]
    ]

pub merged-value : (n : ℕ → ℤ) (ps qs : List (ℕ × ℤ)) → parts_value n (sums (merged ps qs)) ≡ parts_value n ps +ℤ parts_value n qs
merged-value n [] qs = nil-value n qs
merged-value n (p ∷ ps) qs = cons-value n p ps (λ rs. merged-value n ps rs) qs

pub multiples-value : (n : ℕ → ℤ) (k : ℤ) (ps : List (ℕ × ℤ)) → parts_value n (multiples k ps) ≡ k *ℤ parts_value n ps
unfolding multiples
multiples-value n k [] = rw (value-nil n) (omega (arith, ints))
multiples-value n k (p ∷ ps) = let ih = multiples-value n k ps in rw (put-value, value-cons, ih) (simp expand (omega (arith, ints, product3)))

pub value-plus : (n : ℕ → ℤ) (s t : Linear) → value n (plus s t) ≡ value n s +ℤ value n t
unfolding value plus
value-plus n s t = let e = merged-value n s.parts t.parts in omega (arith, ints, e)

pub value-times : (n : ℕ → ℤ) (k : ℤ) (t : Linear) → value n (times k t) ≡ k *ℤ value n t
unfolding value times
value-times n k t = rw (multiples-value n k t.parts) (simp expand (omega (arith, ints)))

pub amount-plus : (q : RationalValuation) (s t : Linear) → amount q (plus s t) ≡ amount q s +ℤ amount q t
unfolding amount plus
amount-plus q s t = let e = merged-value q.numerator s.parts t.parts in simp expand (omega (arith, ints, e))

pub amount-times : (q : RationalValuation) (k : ℤ) (t : Linear) → amount q (times k t) ≡ k *ℤ amount q t
unfolding amount times
amount-times q k t = rw (multiples-value q.numerator k t.parts) (simp expand (omega (arith, ints, product3)))

-- the parts without a variable, and the variable's part
pub without-value : (n : ℕ → ℤ) (x : ℕ) (ps : List (ℕ × ℤ)) → parts_value n ps ≡ coefficient x ps *ℤ n x +ℤ parts_value n (parts_without x ps)
without-value n x [] = rw (value-nil n, coefficient-nil x) (omega (arith, ints))
without-value n x (p ∷ ps) =
    let ih = without-value n x ps in
    elim (tested p.0 x) [
      | inl s ↦ rw (value-cons n p ps, coefficient-same x p ps s, without-same x p ps s, ih, s) (simp expand (omega (arith, ints)))
      | inr d ↦ rw (value-cons n p ps, coefficient-other x p ps d, without-other x p ps d, value-cons n p (parts_without x ps), ih) (omega (arith, ints))
    ]

changed-same : (n : ℕ → ℤ) (x : ℕ) (z : ℤ) → changed n x z x ≡ z
changed-same n x z = let t : (x == x) ≡ true = grind (arith, nat_tests) in rw t refl

changed-other : (n : ℕ → ℤ) (x : ℕ) (z : ℤ) (y : ℕ) → (y ≡ x → ⊥) → changed n x z y ≡ n y
changed-other n x z y d = let t : (y == x) ≡ false = grind (arith, nat_tests) in rw t refl

without-changed : (n : ℕ → ℤ) (x : ℕ) (z : ℤ) (ps : List (ℕ × ℤ)) → parts_value (changed n x z) (parts_without x ps) ≡ parts_value n (parts_without x ps)
without-changed n x z [] = value-nil _ ∙ sym (value-nil n)
without-changed n x z (p ∷ ps) =
    let ih = without-changed n x z ps in
    elim (tested p.0 x) [
      | inl s ↦ rw (without-same x p ps s) ih
      | inr d ↦ rw (without-other x p ps d, value-cons n p (parts_without x ps), value-cons (changed n x z) p (parts_without x ps), changed-other n x z p.0 d, ih) refl
    ]

changed-value : (n : ℕ → ℤ) (x : ℕ) (z : ℤ) (ps : List (ℕ × ℤ)) → parts_value (changed n x z) ps ≡ coefficient x ps *ℤ z +ℤ parts_value n (parts_without x ps)
changed-value n x z ps = without-value (changed n x z) x ps ∙ rw (changed-same n x z, without-changed n x z ps) refl

without-is : (n : ℕ → ℤ) (x : ℕ) (t : Linear) → value n (without x t) ≡ t.constant +ℤ parts_value n (parts_without x t.parts)
unfolding value
without-is n x t = refl

value-is : (n : ℕ → ℤ) (t : Linear) → value n t ≡ t.constant +ℤ parts_value n t.parts
unfolding value
value-is n t = refl

-- the value of a replacement is the term's, where the variable has the other term's value
pub value-replaced : (n : ℕ → ℤ) (x : ℕ) (by t : Linear) → value n (replaced x by t) ≡ value (changed n x (value n by)) t
value-replaced n x by t =
    let c = changed-value n x (value n by) t.parts in
    elim (is_zero_or (coefficient x t.parts)) [
      | inl z ↦
          let w = without-value n x t.parts in
          rw (replaced-none x by t z, value-is n t, value-is (changed n x (value n by)) t, c, w, z) (omega (arith, ints))
      | inr d ↦ rw (replaced-some x by t _ refl d, value-plus, value-times, without-is, value-is (changed n x (value n by)) t, c) (omega (arith, ints))
    ]
  where
    is_zero_or : (z : ℤ) → (z ≡ pos 0) ⊎ (z ≡ pos 0 → ⊥)
    is_zero_or (pos zero) = inl refl
    is_zero_or (pos (suc k)) = inr (λ e. cc)
    is_zero_or (negsuc k) = inr (λ e. cc)

-- 1 at a variable, and 0 elsewhere
pub one_at : ℕ → ℕ → ℤ
one_at x y = if y == x then pos 1 else pos 0

one_at-same : (x y : ℕ) → y ≡ x → one_at x y ≡ pos 1
unfolding one_at
one_at-same x y e = let t : (y == x) ≡ true = grind (arith, nat_tests) in rw t refl

one_at-other : (x y : ℕ) → (y ≡ x → ⊥) → one_at x y ≡ pos 0
unfolding one_at
one_at-other x y d = let t : (y == x) ≡ false = grind (arith, nat_tests) in rw t refl

-- a coefficient is a value
pub coefficient-is : (x : ℕ) (ps : List (ℕ × ℤ)) → coefficient x ps ≡ parts_value (one_at x) ps
coefficient-is x [] = coefficient-nil x ∙ sym (value-nil (one_at x))
coefficient-is x (p ∷ ps) =
    let ih = coefficient-is x ps in
    elim (tested p.0 x) [
      | inl s ↦ rw (coefficient-same x p ps s, value-cons (one_at x) p ps, one_at-same x p.0 s, ih) (omega (arith, ints))
      | inr d ↦ rw (coefficient-other x p ps d, value-cons (one_at x) p ps, one_at-other x p.0 d, ih) (omega (arith, ints))
    ]

pub coefficient-multiples : (x : ℕ) (k : ℤ) (ps : List (ℕ × ℤ)) → coefficient x (multiples k ps) ≡ k *ℤ coefficient x ps
coefficient-multiples x k ps = coefficient-is x (multiples k ps) ∙ multiples-value (one_at x) k ps ∙ sym (ap (λ z. k *ℤ z) (coefficient-is x ps))
