-- What a multiple of one term plus a multiple of another is: its values, its coefficients, and the order of its parts.
use Rattle.std.proofs.Common.{◌≡◌, ℕ, ℤ, pos, ◌+◌, ◌+ℤ◌, ◌*ℤ◌, List, [], ◌∷◌, arith, inl, inr, map}
use Rattle.std.proofs.lemmas.Bool.{cases_lt}
use Rattle.std.proofs.lemmas.Int.{ints}
use Rattle.cap_numbers.proofs.Ring.{expand, product3}
use Rattle.cap_lin.specs.Linear.{Linear, AscendFrom, coefficient, merged, only_right, combined_parts, combination}
use Rattle.cap_lin.specs.Values.{RationalValuation, parts_value, value, amount}
use Rattle.cap_lin.specs.declared.term.Pair.{Pair}
use Rattle.cap_lin.proofs.Merge.{merged-lt, merged-gt, merged-eq, merged-left}
use Rattle.cap_lin.proofs.Ascend.{PairsAscend, merged-ascends, put-ascends}
use Rattle.cap_lin.proofs.Values.{value-nil, value-cons, put-value, one_at, coefficient-is}

combined-value : (n : ℕ → ℤ) (a b : ℤ) (j : Pair) (js : List Pair) → parts_value n (combined_parts a b (j ∷ js)) ≡ (a *ℤ j.left +ℤ b *ℤ j.right) *ℤ n j.variable +ℤ parts_value n (combined_parts a b js)
unfolding combined_parts
combined-value n a b j js = put-value n j.variable (a *ℤ j.left +ℤ b *ℤ j.right) (combined_parts a b js)

combined-nil : (n : ℕ → ℤ) (a b : ℤ) → parts_value n (combined_parts a b []) ≡ pos 0
unfolding combined_parts
combined-nil n a b = value-nil n

right-value : (n : ℕ → ℤ) (a b : ℤ) (qs : List (ℕ × ℤ)) → parts_value n (combined_parts a b (map only_right qs)) ≡ b *ℤ parts_value n qs
right-value n a b [] = rw (combined-nil n a b, value-nil n) (omega (arith, ints))
right-value n a b (q ∷ qs) = let ih = right-value n a b qs in rw (combined-value, value-cons, ih) (simp expand (omega (arith, ints, product3)))

nil-value : (n : ℕ → ℤ) (a b : ℤ) (qs : List (ℕ × ℤ)) → parts_value n (combined_parts a b (merged [] qs)) ≡ a *ℤ parts_value n [] +ℤ b *ℤ parts_value n qs
unfolding merged
nil-value n a b qs = rw (right-value n a b qs, value-nil n) (omega (arith, ints))

cons-value : (n : ℕ → ℤ) (a b : ℤ) (p : ℕ × ℤ) (ps : List (ℕ × ℤ)) → ((qs : List (ℕ × ℤ)) → parts_value n (combined_parts a b (merged ps qs)) ≡ a *ℤ parts_value n ps +ℤ b *ℤ parts_value n qs) → (qs : List (ℕ × ℤ)) → parts_value n (combined_parts a b (merged (p ∷ ps) qs)) ≡ a *ℤ parts_value n (p ∷ ps) +ℤ b *ℤ parts_value n qs
cons-value n a b p ps ih [] = rw (merged-left p ps, combined-value, ih [], value-cons n p ps) (simp expand (omega (arith, ints, product3)))
cons-value n a b p ps ih (q ∷ qs) =
    elim (cases_lt p.0 q.0) [
      | inl lt ↦ rw (merged-lt p q ps qs lt, combined-value, ih (q ∷ qs), value-cons n p ps) (simp expand (omega (arith, ints, product3)))
      | inr ge ↦ elim (cases_lt q.0 p.0) [
        | inl gt ↦ rw (merged-gt p q ps qs gt, combined-value, cons-value n a b p ps ih qs, value-cons n q qs) (simp expand (omega (arith, ints, product3)))
        | inr le ↦
            let e : q.0 ≡ p.0 = omega arith in
            rw (merged-eq p q ps qs ge le, combined-value, ih qs, value-cons n p ps, value-cons n q qs, e) (simp expand (omega (arith, ints, product3)))
      ]
    ]

-- the value of two lists of parts that are combined
pub combined_parts-value : (n : ℕ → ℤ) (a b : ℤ) (ps qs : List (ℕ × ℤ)) → parts_value n (combined_parts a b (merged ps qs)) ≡ a *ℤ parts_value n ps +ℤ b *ℤ parts_value n qs
combined_parts-value n a b [] qs = nil-value n a b qs
combined_parts-value n a b (p ∷ ps) qs = cons-value n a b p ps (λ rs. combined_parts-value n a b ps rs) qs

pub combination-value : (n : ℕ → ℤ) (a : ℤ) (s : Linear) (b : ℤ) (t : Linear) → value n (combination a s b t) ≡ a *ℤ value n s +ℤ b *ℤ value n t
unfolding value combination
combination-value n a s b t = rw (combined_parts-value n a b s.parts t.parts) (simp expand (omega (arith, ints)))

pub combination-amount : (q : RationalValuation) (a : ℤ) (s : Linear) (b : ℤ) (t : Linear) → amount q (combination a s b t) ≡ a *ℤ amount q s +ℤ b *ℤ amount q t
unfolding amount combination
combination-amount q a s b t = rw (combined_parts-value q.numerator a b s.parts t.parts) (simp expand (omega (arith, ints, product3)))

pub combination-coefficient : (x : ℕ) (a : ℤ) (s : Linear) (b : ℤ) (t : Linear) → coefficient x (combination a s b t).parts ≡ a *ℤ coefficient x s.parts +ℤ b *ℤ coefficient x t.parts
unfolding combination
combination-coefficient x a s b t = rw (coefficient-is, coefficient-is x s.parts, coefficient-is x t.parts) (combined_parts-value (one_at x) a b s.parts t.parts)

-- ---- the order of the parts

combined-ascend : (low : ℕ) (a b : ℤ) (js : List Pair) → PairsAscend low js → AscendFrom low (combined_parts a b js)
unfolding combined_parts
combined-ascend low a b [] h = tt
combined-ascend low a b (j ∷ js) h = put-ascends j.variable (a *ℤ j.left +ℤ b *ℤ j.right) low (combined_parts a b js) h.0 (combined-ascend (j.variable + 1) a b js h.1)

pub combined_parts-ascend : (low : ℕ) (a b : ℤ) (ps qs : List (ℕ × ℤ)) → AscendFrom low ps → AscendFrom low qs → AscendFrom low (combined_parts a b (merged ps qs))
combined_parts-ascend low a b ps qs f g = combined-ascend low a b (merged ps qs) (merged-ascends low ps qs f g)

pub combination-ascends : (a : ℤ) (s : Linear) (b : ℤ) (t : Linear) → AscendFrom 0 s.parts → AscendFrom 0 t.parts → AscendFrom 0 (combination a s b t).parts
unfolding combination
combination-ascends a s b t f g = combined_parts-ascend 0 a b s.parts t.parts f g
