-- The multipliers of a false row refute the input rows, except that results on the way may be wide.
use Rattle.std.proofs.Common.{◌≡◌, ℕ, zero, suc, ℤ, pos, negsuc, ◌+ℤ◌, ◌*ℤ◌, ◌≤ℤ◌, ◌<ℤ◌, List, [], ◌∷◌, ◌+◌, ◌≤◌, length, arith, refl, subst, ap, sym, ◌∙◌, ◌⊎◌, inl, inr, Bool, true, false}
use Rattle.std.proofs.lemmas.Bool.{cases_lt}
use Rattle.std.proofs.lemmas.Int.{ints}
use Rattle.cap_numbers.proofs.Order.{sign_of}
use Rattle.cap_lin.specs.Linear.{Linear, AscendFrom, coefficient, times, multiples}
use Rattle.cap_lin.specs.Values.{parts_value, value}
use Rattle.cap_lin.specs.declared.row.Row.{Row}
use Rattle.cap_lin.specs.declared.row.Kind.{Kind}
use Rattle.cap_lin.specs.declared.row.Kind.TheVariants.{Le, Lt, Eq, Ne}
use Rattle.cap_lin.proofs.Places.{coefficient-same, coefficient-other, coefficient-nil, tested}
use Rattle.cap_lin.proofs.Values.{value-nil, value-cons}
use Rattle.cap_lin.proofs.Ascend.{multiple-ascends}
use Rattle.cap_farkas.specs.Farkas.{MayMultiply, row_at, Names, constant_of, coefficient_of, column_sum, HasStrict, Contradicts}
use Rattle.cap_fm_spec.specs.Rows.{is_false}
use Rattle.cap_fm_spec.specs.Leaf.{is_turned, turned}
use Rattle.cap_fm_spec.specs.Sums.{column, MayAdd, IsSumOf}
use Rattle.cap_fm_spec.proofs.Pivots.{absent-below}
use Rattle.cap_fm_spec.proofs.Sums.{sum-turned}

-- ---- a column's sum is the value of the multipliers

sum-is : (of : Linear → ℤ) (rows : List Row) (s : ℤ) (leaf : List (ℕ × ℤ)) → column_sum of rows s leaf ≡ s +ℤ parts_value (column of rows) leaf
unfolding column_sum
sum-is of rows s [] = rw (value-nil (column of rows)) (omega (arith, ints))
sum-is of rows s (p ∷ ps) = sum-is of rows (s +ℤ p.1 *ℤ of (row_at rows p.0).term) ps ∙ rw (value-cons (column of rows) p ps) (omega (arith, ints))

value-is : (n : ℕ → ℤ) (m : Linear) → m.constant ≡ pos 0 → value n m ≡ pos 0 +ℤ parts_value n m.parts
unfolding value
value-is n m e = ap (λ c. c +ℤ parts_value n m.parts) e

column-is : (of : Linear → ℤ) (rows : List Row) (m : Linear) → m.constant ≡ pos 0 → column_sum of rows (pos 0) m.parts ≡ value (column of rows) m
column-is of rows m e = sum-is of rows (pos 0) m.parts ∙ sym (value-is (column of rows) m e)

-- ---- the rows named

head-coefficient : (low : ℕ) (p : ℕ × ℤ) (ps : List (ℕ × ℤ)) → AscendFrom low (p ∷ ps) → coefficient p.0 (p ∷ ps) ≡ p.1
head-coefficient low p ps a = coefficient-same p.0 p ps refl ∙ rw (absent-below (p.0 + 1) p.0 ps a.2 (omega arith)) (omega (arith, ints))

tail-coefficient : (i : ℕ) (p : ℕ × ℤ) (ps : List (ℕ × ℤ)) → p.0 + 1 ≤ i → coefficient i (p ∷ ps) ≡ coefficient i ps
tail-coefficient i p ps h = coefficient-other i p ps (λ e. absurd (omega arith))

positive : (c : ℤ) → pos 0 ≤ℤ c → (c ≡ pos 0 → ⊥) → pos 0 <ℤ c
positive c h n = elim (sign_of c) [ inl l ↦ absurd (omega (arith, ints)) | inr o ↦ elim o [ inl e ↦ absurd (n e) | inr g ↦ g ] ]

multiply : (i k : Kind) (c : ℤ) → MayAdd i k c → (c ≡ pos 0 → ⊥) → MayMultiply i c
multiply Le k c m n = positive c m.0 n
multiply Lt k c m n = positive c m.0 n
multiply Eq k c m n = n
multiply Ne k c m n = n m

-- what is known of a multiplier by its row's number
record MayStand (rows : List Row) (k : Kind) (i : ℕ) (c : ℤ) : Type 0 where
  within : length rows ≤ i → c ≡ pos 0
  may : MayAdd (row_at rows i).kind k c

names : (rows : List Row) (k : Kind) (low : ℕ) (ps : List (ℕ × ℤ)) → AscendFrom low ps → ((i : ℕ) → low ≤ i → MayStand rows k i (coefficient i ps)) → Names low rows ps
unfolding Names
names rows k low [] a f = tt
names rows k low (p ∷ ps) a f =
    let h = subst (MayStand rows k p.0) (head-coefficient low p ps a) (f p.0 a.0) in
    let l = a.0 in (
      a.0,
      elim (cases_lt p.0 (length rows)) [ inl b ↦ b | inr b ↦ absurd (a.1 (h.within b)) ],
      multiply _ k p.1 h.may a.1,
      names rows k (p.0 + 1) ps a.2 (λ i b. subst (MayStand rows k i) (tail-coefficient i p ps b) (f i (omega arith))),
    )

strict-named : (rows : List Row) (i : ℕ) (ps : List (ℕ × ℤ)) → (row_at rows i).kind ≡ Lt → pos 0 <ℤ coefficient i ps → HasStrict rows ps
unfolding HasStrict
strict-named rows i [] k h = let e = coefficient-nil i in absurd (omega (arith, ints))
strict-named rows i (p ∷ ps) k h = elim (tested p.0 i) [
  | inl e ↦ inl (subst (λ j. (row_at rows j).kind ≡ Lt) (sym e) k)
  | inr n ↦ inr (strict-named rows i ps k (subst (λ z. pos 0 <ℤ z) (coefficient-other i p ps n) h))
]

-- ---- a false row without variables

-- the multipliers refute the rows, except that results on the way may be wide
pub record Contradict (rows : List Row) (m : Linear) : Type 0 where
  pub names : Names 0 rows m.parts
  pub cancels : (x : ℕ) → column_sum (coefficient_of x) rows (pos 0) m.parts ≡ pos 0
  pub contradicts : Contradicts rows m.parts (column_sum constant_of rows (pos 0) m.parts)

-- the sum contradicts itself as it stands
abbrev IsTooLarge : Kind → ℤ → Type 0
IsTooLarge k c = (pos 0 <ℤ c) ⊎ ((c ≡ pos 0) × (k ≡ Lt))

contradict : (rows : List Row) (t : Linear) (k : Kind) (m : Linear) → t.parts ≡ [] → IsTooLarge k t.constant → IsSumOf rows t k m → AscendFrom 0 m.parts → Contradict rows m
contradict rows t k m e c s a =
    let v : column_sum constant_of rows (pos 0) m.parts ≡ t.constant = column-is constant_of rows m s.bare ∙ sym s.constant in
    record {
      names = names rows k 0 m.parts a (λ i h. record { within = s.within i; may = s.may i });
      cancels = λ x. column-is (coefficient_of x) rows m s.bare ∙ sym (s.coefficients x) ∙ ap (coefficient x) e ∙ coefficient-nil x;
      contradicts = elim c [ inl p ↦ inl (rw v p) | inr z ↦ inr (v ∙ z.0, strict-named rows (s.strict z.1).number m.parts (s.strict z.1).strict (s.strict z.1).above) ];
    }

-- a false row stands as it is, unless it is an equation with a negative constant
too_large : (k : Kind) (c : ℤ) → (k ≡ Ne → ⊥) → is_false k c ≡ true → is_turned k c ≡ false → IsTooLarge k c
too_large Le (pos zero) n f e = cc
too_large Le (pos (suc i)) n f e = inl (omega (arith, ints))
too_large Le (negsuc i) n f e = cc
too_large Lt (pos zero) n f e = inr (refl, refl)
too_large Lt (pos (suc i)) n f e = inl (omega (arith, ints))
too_large Lt (negsuc i) n f e = cc
too_large Eq (pos zero) n f e = cc
too_large Eq (pos (suc i)) n f e = inl (omega (arith, ints))
too_large Eq (negsuc i) n f e = cc
too_large Ne c n f e = absurd (n refl)

below_zero : (k : Kind) (c : ℤ) → is_turned k c ≡ true → (k ≡ Eq) × (c <ℤ pos 0)
below_zero Le c e = cc
below_zero Lt c e = cc
below_zero Eq (pos i) e = cc
below_zero Eq (negsuc i) e = (refl, omega (arith, ints))
below_zero Ne c e = cc

no_parts : (t : Linear) → t.parts ≡ [] → (times (negsuc 0) t).parts ≡ []
unfolding times multiples
no_parts t e = ap (multiples (negsuc 0)) e

turned-constant : (t : Linear) → t.constant <ℤ pos 0 → pos 0 <ℤ (times (negsuc 0) t).constant
unfolding times
turned-constant t h = omega (arith, ints)

turned-ascends : (m : Linear) → AscendFrom 0 m.parts → AscendFrom 0 (times (negsuc 0) m).parts
unfolding times
turned-ascends m a = multiple-ascends 0 (negsuc 0) m.parts a

-- the multipliers of a false row, turned where it takes that
pub false-refutes : (rows : List Row) (t : Linear) (k : Kind) (m : Linear) → (k ≡ Ne → ⊥) → t.parts ≡ [] → is_false k t.constant ≡ true → IsSumOf rows t k m → AscendFrom 0 m.parts → Contradict rows (turned (is_turned k t.constant) m)
false-refutes rows t k m n e f s a = by_turn (is_turned k t.constant) refl
  where
    by_turn : (b : Bool) → is_turned k t.constant ≡ b → Contradict rows (turned b m)
    by_turn false d = contradict rows t k m e (too_large k t.constant n f d) s a
    by_turn true d =
        let z = below_zero k t.constant d in
        let u = subst (λ x. IsSumOf rows t x m) z.0 s in
        contradict rows (times (negsuc 0) t) Eq (times (negsuc 0) m) (no_parts t e) (inl (turned-constant t z.1)) (sum-turned rows t m u) (turned-ascends m a)
