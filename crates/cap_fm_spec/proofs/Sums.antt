-- Sums of multiples of rows: of an input row, of a combination, and of a negative equation.
use Rattle.std.proofs.Common.{◌≡◌, ℕ, zero, suc, ℤ, pos, negsuc, ◌+ℤ◌, ◌*ℤ◌, ◌≤ℤ◌, ◌<ℤ◌, List, [], ◌∷◌, ◌<◌, length, arith, refl, subst, ap, sym, ◌∙◌, ◌⊎◌, inl, inr, Some}
use Rattle.std.specs.Prelude.{slice_get}
use Rattle.std.proofs.lemmas.Int.{ints}
use Rattle.cap_numbers.proofs.Order.{mul-nonneg, mul-pos}
use Rattle.cap_lin.specs.Linear.{Linear, coefficient, times, variable, combination}
use Rattle.cap_lin.specs.Values.{value}
use Rattle.cap_lin.specs.declared.row.Row.{Row}
use Rattle.cap_lin.specs.declared.row.Kind.{Kind}
use Rattle.cap_lin.specs.declared.row.Kind.TheVariants.{Le, Lt, Eq, Ne}
use Rattle.cap_lin.proofs.Places.{coefficient-same, coefficient-other, coefficient-nil, tested}
use Rattle.cap_lin.proofs.Values.{value-nil, value-cons, value-times, coefficient-multiples}
use Rattle.cap_lin.proofs.Combinations.{combination-value, combination-coefficient}
use Rattle.cap_farkas.specs.Farkas.{row_at, constant_of, coefficient_of}
use Rattle.cap_fm_spec.specs.Elimination.{strictest}
use Rattle.cap_fm_spec.specs.Sums.{column, MayAdd, HasStrictly, IsSumOf}

pub combination-constant : (a : ℤ) (s : Linear) (b : ℤ) (t : Linear) → (combination a s b t).constant ≡ a *ℤ s.constant +ℤ b *ℤ t.constant
unfolding combination
combination-constant a s b t = refl

-- ---- signs

zero-times : (k c : ℤ) → c ≡ pos 0 → k *ℤ c ≡ pos 0
zero-times k c e = rw e (omega (arith, ints))

zero-sum : (a b : ℤ) → a ≡ pos 0 → b ≡ pos 0 → a +ℤ b ≡ pos 0
zero-sum a b e d = rw (e, d) refl

-- the second multiplier is above 0, or it is that of an equation
abbrev pub IsFactor : ℤ → Kind → Type 0
IsFactor b l = (pos 0 <ℤ b) ⊎ (l ≡ Eq)

second-nonneg : (l : Kind) (b d : ℤ) → IsFactor b l → pos 0 ≤ℤ d → (l ≡ Eq → d ≡ pos 0) → pos 0 ≤ℤ (b *ℤ d)
second-nonneg l b d f h z = elim f [ inl p ↦ mul-nonneg b d (omega (arith, ints)) h | inr e ↦ let y = zero-times b d (z e) in omega (arith, ints) ]

both-nonneg : (l : Kind) (a b c d : ℤ) → pos 0 <ℤ a → IsFactor b l → pos 0 ≤ℤ c → pos 0 ≤ℤ d → (l ≡ Eq → d ≡ pos 0) → pos 0 ≤ℤ (a *ℤ c +ℤ b *ℤ d)
both-nonneg l a b c d p f h k z = let x = mul-nonneg a c (omega (arith, ints)) h in let y = second-nonneg l b d f k z in omega (arith, ints)

-- what a sum of rows of two kinds may say
pub record Joins (k l j : Kind) : Type 0 where
  pub equal : j ≡ Eq → (k ≡ Eq) × (l ≡ Eq)
  pub strict : j ≡ Lt → (k ≡ Lt) ⊎ (l ≡ Lt)

both-zero : (k l j : Kind) (a b c d : ℤ) → Joins k l j → (k ≡ Eq → c ≡ pos 0) → (l ≡ Eq → d ≡ pos 0) → j ≡ Eq → a *ℤ c +ℤ b *ℤ d ≡ pos 0
both-zero k l j a b c d h y z e = let i = h.equal e in zero-sum _ _ (zero-times a c (y i.0)) (zero-times b d (z i.1))

may-both : (i : Kind) (k l j : Kind) (a b c d : ℤ) → Joins k l j → pos 0 <ℤ a → IsFactor b l → MayAdd i k c → MayAdd i l d → MayAdd i j (a *ℤ c +ℤ b *ℤ d)
may-both Le k l j a b c d h x f p q = (both-nonneg l a b c d x f p.0 q.0 q.1, both-zero k l j a b c d h p.1 q.1)
may-both Lt k l j a b c d h x f p q = (both-nonneg l a b c d x f p.0 q.0 q.1, both-zero k l j a b c d h p.1 q.1)
may-both Eq k l j a b c d h x f p q = tt
may-both Ne k l j a b c d h x f p q = zero-sum _ _ (zero-times a c p) (zero-times b d q)

may-strict : (i k : Kind) (c : ℤ) → i ≡ Lt → MayAdd i k c → (pos 0 ≤ℤ c) × (k ≡ Eq → c ≡ pos 0)
may-strict Le k c e m = cc
may-strict Lt k c e m = m
may-strict Eq k c e m = cc
may-strict Ne k c e m = cc

-- ---- a combination

first-strict : (rows : List Row) (l : Kind) (m n : Linear) (a b : ℤ) → pos 0 <ℤ a → IsFactor b l → HasStrictly rows m → ((i : ℕ) → MayAdd (row_at rows i).kind l (coefficient i n.parts)) → HasStrictly rows (combination a m b n)
first-strict rows l m n a b p f h q =
    let k = may-strict _ l _ h.strict (q h.number) in
    let x = mul-pos a _ p h.above in
    let y = second-nonneg l b _ f k.0 k.1 in
    record { number = h.number; strict = h.strict; above = rw (combination-coefficient h.number a m b n) (omega (arith, ints)) }

second-strict : (rows : List Row) (k : Kind) (m n : Linear) (a b : ℤ) → pos 0 <ℤ a → pos 0 <ℤ b → ((i : ℕ) → MayAdd (row_at rows i).kind k (coefficient i m.parts)) → HasStrictly rows n → HasStrictly rows (combination a m b n)
second-strict rows k m n a b l f p h =
    let j = may-strict _ k _ h.strict (p h.number) in
    let x = mul-nonneg a _ (omega (arith, ints)) j.0 in
    let y = mul-pos b _ f h.above in
    record { number = h.number; strict = h.strict; above = rw (combination-coefficient h.number a m b n) (omega (arith, ints)) }

above-zero : (b : ℤ) (l : Kind) → IsFactor b l → l ≡ Lt → pos 0 <ℤ b
above-zero b l f e = elim f [ inl p ↦ p | inr d ↦ absurd (clash (sym e ∙ d)) ]
  where
    clash : Lt ≡ Eq → ⊥
    clash e = cc

pub sum-both : (rows : List Row) (t u : Linear) (k l j : Kind) (m n : Linear) (a b : ℤ) → Joins k l j → pos 0 <ℤ a → IsFactor b l → IsSumOf rows t k m → IsSumOf rows u l n → IsSumOf rows (combination a t b u) j (combination a m b n)
sum-both rows t u k l j m n a b h x f p q = record {
  bare = combination-constant a m b n ∙ zero-sum _ _ (zero-times a _ p.bare) (zero-times b _ q.bare);
  constant = combination-constant a t b u ∙ rw (p.constant, q.constant) (sym (combination-value (column constant_of rows) a m b n));
  coefficients = λ y. combination-coefficient y a t b u ∙ rw (p.coefficients y, q.coefficients y) (sym (combination-value (column (coefficient_of y) rows) a m b n));
  within = λ i g. combination-coefficient i a m b n ∙ zero-sum _ _ (zero-times a _ (p.within i g)) (zero-times b _ (q.within i g));
  may = λ i. rw (combination-coefficient i a m b n) (may-both _ k l j a b _ _ h x f (p.may i) (q.may i));
  strict = λ e. elim (h.strict e) [ inl d ↦ first-strict rows l m n a b x f (p.strict d) q.may | inr d ↦ second-strict rows k m n a b x (above-zero b l f d) p.may (q.strict d) ];
}

-- with an equation the kind stays, and bounds have the stricter kind
pub joins-equation : (k : Kind) → Joins k Eq k
joins-equation k = record { equal = λ e. (e, refl); strict = λ e. inl e }

pub joins-bounds : (k l : Kind) → Joins k l (strictest k l)
joins-bounds k l = record { equal = λ e. absurd (never k l e); strict = either k l }
  where
    never : (k l : Kind) → strictest k l ≡ Eq → ⊥
    never Lt l e = cc
    never Le Lt e = cc
    never Le Le e = cc
    never Le Eq e = cc
    never Le Ne e = cc
    never Eq Lt e = cc
    never Eq Le e = cc
    never Eq Eq e = cc
    never Eq Ne e = cc
    never Ne Lt e = cc
    never Ne Le e = cc
    never Ne Eq e = cc
    never Ne Ne e = cc

    either : (k l : Kind) → strictest k l ≡ Lt → (k ≡ Lt) ⊎ (l ≡ Lt)
    either Lt l e = inl refl
    either Le Lt e = inr refl
    either Le Le e = cc
    either Le Eq e = cc
    either Le Ne e = cc
    either Eq Lt e = inr refl
    either Eq Le e = cc
    either Eq Eq e = cc
    either Eq Ne e = cc
    either Ne Lt e = inr refl
    either Ne Le e = cc
    either Ne Eq e = cc
    either Ne Ne e = cc

-- ---- an equation's negative

may-turned : (i : Kind) (c : ℤ) → MayAdd i Eq c → MayAdd i Eq (negsuc 0 *ℤ c)
may-turned Le c m = let z = zero-times (negsuc 0) c (m.1 refl) in (omega (arith, ints), λ e. z)
may-turned Lt c m = let z = zero-times (negsuc 0) c (m.1 refl) in (omega (arith, ints), λ e. z)
may-turned Eq c m = tt
may-turned Ne c m = zero-times (negsuc 0) c m

times-constant : (k : ℤ) (t : Linear) → (times k t).constant ≡ k *ℤ t.constant
unfolding times
times-constant k t = refl

times-coefficient : (x : ℕ) (k : ℤ) (t : Linear) → coefficient x (times k t).parts ≡ k *ℤ coefficient x t.parts
unfolding times
times-coefficient x k t = coefficient-multiples x k t.parts

pub sum-turned : (rows : List Row) (t m : Linear) → IsSumOf rows t Eq m → IsSumOf rows (times (negsuc 0) t) Eq (times (negsuc 0) m)
sum-turned rows t m p = record {
  bare = times-constant (negsuc 0) m ∙ zero-times (negsuc 0) _ p.bare;
  constant = times-constant (negsuc 0) t ∙ rw p.constant (sym (value-times (column constant_of rows) (negsuc 0) m));
  coefficients = λ x. times-coefficient x (negsuc 0) t ∙ rw (p.coefficients x) (sym (value-times (column (coefficient_of x) rows) (negsuc 0) m));
  within = λ i h. times-coefficient i (negsuc 0) m ∙ zero-times (negsuc 0) _ (p.within i h);
  may = λ i. rw (times-coefficient i (negsuc 0) m) (may-turned _ _ (p.may i));
  strict = λ e. absurd (clash e);
}
  where
    clash : Eq ≡ Lt → ⊥
    clash e = cc

-- ---- an input row

row-found : (rows : List Row) (i : ℕ) (r : Row) → slice_get rows i ≡ Some r → (row_at rows i ≡ r) × (i < length rows)
row-found [] i r e = absurd (cc)
row-found (x ∷ xs) zero r e = let d : x ≡ r = cc in (d, omega arith)
row-found (x ∷ xs) (suc i) r e = let f = row-found xs i r e in let l = f.1 in (f.0, omega arith)

may-zero : (i k : Kind) (c : ℤ) → c ≡ pos 0 → MayAdd i k c
may-zero Le k c e = (rw e (omega (arith, ints)), λ d. e)
may-zero Lt k c e = (rw e (omega (arith, ints)), λ d. e)
may-zero Eq k c e = tt
may-zero Ne k c e = e

may-one : (k : Kind) → (k ≡ Ne → ⊥) → MayAdd k k (pos 1)
may-one Le n = (omega (arith, ints), λ e. cc)
may-one Lt n = (omega (arith, ints), λ e. cc)
may-one Eq n = tt
may-one Ne n = absurd (n refl)

unit-here : (i j : ℕ) → i ≡ j → coefficient j (variable i).parts ≡ pos 1
unit-here i j e = coefficient-same j (i, pos 1) [] e ∙ rw (coefficient-nil j) refl

unit-other : (i j : ℕ) → (i ≡ j → ⊥) → coefficient j (variable i).parts ≡ pos 0
unit-other i j n = coefficient-other j (i, pos 1) [] n ∙ coefficient-nil j

one-times : (z : ℤ) → pos 0 +ℤ (pos 1 *ℤ z +ℤ pos 0) ≡ z
one-times (pos n) = omega (arith, ints)
one-times (negsuc n) = omega (arith, ints)

variable-value : (n : ℕ → ℤ) (i : ℕ) → value n (variable i) ≡ n i
unfolding value
variable-value n i = rw (value-cons n (i, pos 1) [], value-nil n) (one-times (n i))

may-unit : (rows : List Row) (i : ℕ) (k : Kind) → (k ≡ Ne → ⊥) → (row_at rows i).kind ≡ k → (j : ℕ) → MayAdd (row_at rows j).kind k (coefficient j (variable i).parts)
may-unit rows i k n h j = elim (tested i j) [
  | inl e ↦ rw (unit-here i j e) (subst (λ u. MayAdd (row_at rows u).kind k (pos 1)) e (subst (λ u. MayAdd u k (pos 1)) (sym h) (may-one k n)))
  | inr d ↦ may-zero _ k _ (unit-other i j d)
]

strict-unit : (rows : List Row) (i : ℕ) (k : Kind) → (row_at rows i).kind ≡ k → k ≡ Lt → HasStrictly rows (variable i)
strict-unit rows i k h e = record { number = i; strict = h ∙ e; above = rw (unit-here i i refl) (omega (arith, ints)) }

pub sum-input : (rows : List Row) (i : ℕ) (row : Row) → slice_get rows i ≡ Some row → (row.kind ≡ Ne → ⊥) → IsSumOf rows row.term row.kind (variable i)
sum-input rows i row s n =
    let f = row-found rows i row s in
    let d : row.term ≡ (row_at rows i).term = ap (λ x. x.term) (sym f.0) in
    let c : (row_at rows i).kind ≡ row.kind = ap (λ x. x.kind) f.0 in
    record {
      bare = refl;
      constant = ap constant_of d ∙ sym (variable-value (column constant_of rows) i);
      coefficients = λ x. ap (coefficient_of x) d ∙ sym (variable-value (column (coefficient_of x) rows) i);
      within = λ j h. unit-other i j (λ e. let l = f.1 in absurd (omega arith));
      may = may-unit rows i row.kind n c;
      strict = strict-unit rows i row.kind c;
    }
