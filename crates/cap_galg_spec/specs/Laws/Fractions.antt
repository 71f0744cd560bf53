-- Fractions in lowest terms: two of one value are equal, and sums are commutative and associative.
use Rattle.std.proofs.Common.{◌≡◌, ℕ, zero, suc, ◌+◌, ◌-◌, ◌*◌, ◌/◌, ◌%◌, ◌≤◌, ◌<◌, arith, refl, ap}
use Rattle.std.proofs.Common.{sym, ◌∙◌, subst, inl, inr}
use Rattle.std.specs.Int.{◌∣◌, IsGcd}
use Rattle.std.proofs.lemmas.Bool.{cases_lt}
use Rattle.std.proofs.lemmas.Nat.Gcd.{IsGcd-from_zero, IsGcd-from_mod, same_from_IsGcd}
use Rattle.std.proofs.Math.Nat.{dvd_refl, dvd-zero, dvd-add, eq-one_of_dvd-one, mul-le-mul_left}
use Rattle.std.proofs.Math.Nat.{mul-le-mul_right, mul-lt-mul_of_pos_left, mul-dvd-mul_left}
use Rattle.std.proofs.Math.Nat.{dvd_of_mul-dvd-mul_left, mul-div_cancel'}
use Rattle.cap_galg_spec.specs.declared.fraction.Fraction.{Fraction}
use Rattle.cap_galg_spec.specs.Fractions.{fraction, IsLowest, IsAmount, IsShare, gcd_within, gcd}
use Rattle.cap_galg_spec.specs.Fractions.{lowest}
use Rattle.cap_galg_spec.specs.Fractions.{crossed, plus}

-- ---- the greatest common divisor

gcd_within-is : (fuel a b : ℕ) → b < fuel → IsGcd a b (gcd_within fuel a b)
gcd_within-is zero a b h = absurd (omega arith)
gcd_within-is (suc fuel) a zero h = IsGcd-from_zero a zero refl
gcd_within-is (suc fuel) a (suc b) h = IsGcd-from_mod a (suc b) _ (gcd_within-is fuel (suc b) (a % suc b) (omega arith))

pub gcd-is : (a b : ℕ) → IsGcd a b (gcd a b)
unfolding gcd
gcd-is a b = gcd_within-is (suc b) a b (omega arith)

pub gcd-only : (a b g : ℕ) → IsGcd a b g → g ≡ gcd a b
gcd-only a b g h = same_from_IsGcd a b g (gcd a b) h (gcd-is a b)

-- ---- products

pub product-positive : (a b : ℕ) → 0 < a → 0 < b → 0 < a * b
product-positive (suc a) (suc b) h k = omega arith
product-positive zero b h k = absurd (omega arith)
product-positive (suc a) zero h k = absurd (omega arith)

factor-positive : (a b c : ℕ) → a * b ≡ c → 0 < c → (0 < a) × (0 < b)
factor-positive zero b c e h = absurd (omega arith)
factor-positive (suc a) zero c e h = absurd (omega arith)
factor-positive (suc a) (suc b) c e h = (omega arith, omega arith)

pub cancel-le : (c a b : ℕ) → 0 < c → c * a ≤ c * b → a ≤ b
cancel-le c a b h e = elim (cases_lt b a) [
  | inl lt ↦ absurd (let l = mul-lt-mul_of_pos_left lt h in omega arith)
  | inr ge ↦ ge
]

pub cancel : (c a b : ℕ) → 0 < c → c * a ≡ c * b → a ≡ b
cancel c a b h e =
    let p : a ≤ b = cancel-le c a b h (omega arith) in
    let q : b ≤ a = cancel-le c b a h (omega arith) in
    omega arith

-- ---- lowest terms

-- a fraction in lowest terms with the value of n / d
pub record Reduced (n d : ℕ) (r : Fraction) : Type 0 where
  pub lowest : IsLowest r
  pub value : n * r.den ≡ r.num * d

same-ratio : (g m e n d : ℕ) → g * m ≡ n → g * e ≡ d → n * e ≡ m * d
same-ratio g m e n d p q = omega (arith, ap (λ x. x * e) p, ap (λ x. m * x) q)

pub lowest-is : (n d : ℕ) → 0 < d → Reduced n d (lowest n d)
unfolding lowest
lowest-is n d h =
    let g = gcd n d in
    let is : IsGcd n d (gcd n d) = gcd-is n d in
    let p : gcd n d * (n / gcd n d) ≡ n = mul-div_cancel' (gcd n d) is.0 in
    let q : gcd n d * (d / gcd n d) ≡ d = mul-div_cancel' (gcd n d) is.1 in
    let s = factor-positive (gcd n d) (d / gcd n d) d q h in
    record {
      lowest = record {
        positive = s.1;
        coprime = λ k a b.
            let a' : gcd n d * k ∣ n = subst (λ x. gcd n d * k ∣ x) p (mul-dvd-mul_left k (gcd n d) a) in
            let b' : gcd n d * k ∣ d = subst (λ x. gcd n d * k ∣ x) q (mul-dvd-mul_left k (gcd n d) b) in
            let e : gcd n d ≡ gcd n d * 1 = omega arith in
            let c : gcd n d * k ∣ gcd n d * 1 = subst (λ x. gcd n d * k ∣ x) e (is.2 (gcd n d * k) a' b') in
            eq-one_of_dvd-one (dvd_of_mul-dvd-mul_left k s.0 c);
      };
      value = same-ratio (gcd n d) (n / gcd n d) (d / gcd n d) n d p q;
    }

-- no common factor is left in two numbers
record Coprime (n d : ℕ) : Type 0 where
  positive : 0 < d
  only_one : (k : ℕ) → k ∣ n → k ∣ d → k ≡ 1

turned : (n b : ℕ) → 0 < n → Coprime n (n + b) → Coprime b n
turned n b h c = record { positive = h; only_one = λ k p q. c.only_one k q (dvd-add k q p) }

lowered : (d a : ℕ) → Coprime (d + a) d → Coprime a d
lowered d a c = record { positive = c.positive; only_one = λ k p q. c.only_one k (dvd-add k q p) q }

zero-coprime : (d : ℕ) → Coprime 0 d → d ≡ 1
zero-coprime d c = c.only_one d (dvd-zero d) (dvd_refl d)

numerator-zero : (n d e : ℕ) → 0 < d → n * d ≡ 0 * e → n ≡ 0
numerator-zero zero d e h k = refl
numerator-zero (suc n) (suc d) e h k = absurd (omega arith)
numerator-zero (suc n) zero e h k = absurd (omega arith)

numerator-positive : (n d m e : ℕ) → 0 < e → suc n * e ≡ m * d → 0 < m
numerator-positive n d zero (suc e) h k = absurd (omega arith)
numerator-positive n d zero zero h k = absurd (omega arith)
numerator-positive n d (suc m) e h k = omega arith

above-too : (n d m e : ℕ) → d ≤ n → 0 < d → n * e ≡ m * d → e ≤ m
above-too n d m e h p k = elim (cases_lt m e) [
  | inl lt ↦ absurd (let l = mul-le-mul_right e h in let r = mul-le-mul_right d lt in omega arith)
  | inr ge ↦ ge
]

below-too : (n d m e : ℕ) → n < d → 0 < e → n * e ≡ m * d → m < e
below-too n d m e h p k = elim (cases_lt m e) [
  | inl lt ↦ lt
  | inr ge ↦ absurd (let l = mul-le-mul_right e h in let r = mul-le-mul_right d ge in omega arith)
]

turned-ratio : (n b m c : ℕ) → n * (m + c) ≡ m * (n + b) → b * m ≡ c * n
turned-ratio n b m c h = omega arith

lowered-ratio : (a d b e : ℕ) → (d + a) * e ≡ (e + b) * d → a * e ≡ b * d
lowered-ratio a d b e h = omega arith

-- two ratios in lowest terms are equal: subtract the smaller number from the greater in both, and
-- go on
ratios-equal : (fuel n d m e : ℕ) → n + d < fuel → Coprime n d → Coprime m e → n * e ≡ m * d
    → (n ≡ m) × (d ≡ e)
ratios-equal zero n d m e f a b k = absurd (omega arith)
ratios-equal (suc fuel) zero d m e f a b k =
    let z : m ≡ 0 = numerator-zero m d e a.positive (sym k) in
    let b' : Coprime 0 e = rw z at b in
    (sym z, zero-coprime d a ∙ sym (zero-coprime e b'))
ratios-equal (suc fuel) (suc n) d m e f a b k = elim (cases_lt (suc n) d) [
  | inl lt ↦
      let lt' : m < e = below-too (suc n) d m e lt b.positive k in
      let x : d ≡ suc n + (d - suc n) = omega arith in
      let y : e ≡ m + (e - m) = omega arith in
      let a' : Coprime (suc n) (suc n + (d - suc n)) = subst (Coprime (suc n)) x a in
      let b' : Coprime m (m + (e - m)) = subst (Coprime m) y b in
      let c : (d - suc n) * m ≡ (e - m) * suc n = turned-ratio (suc n) (d - suc n) m (e - m) (rw (← x, ← y) k) in
      let r = ratios-equal fuel (d - suc n) (suc n) (e - m) m (omega arith) (turned (suc n) (d - suc n) (omega arith) a') (turned m (e - m) (numerator-positive n d m e b.positive k) b') c in
      (r.1, omega arith)
  | inr ge ↦
      let ge' : e ≤ m = above-too (suc n) d m e ge a.positive k in
      let x : suc n ≡ d + (suc n - d) = omega arith in
      let y : m ≡ e + (m - e) = omega arith in
      let a' : Coprime (d + (suc n - d)) d = subst (λ z. Coprime z d) x a in
      let b' : Coprime (e + (m - e)) e = subst (λ z. Coprime z e) y b in
      let c : (suc n - d) * e ≡ (m - e) * d = lowered-ratio (suc n - d) d (m - e) e (rw (← x, ← y) k) in
      let p = a.positive in
      let r = ratios-equal fuel (suc n - d) d (m - e) e (omega arith) (lowered d (suc n - d) a') (lowered e (m - e) b') c in
      (omega (arith, r.0, r.1), r.1)
]

pub made : (n m d e : ℕ) → n ≡ m → d ≡ e → fraction n d ≡ fraction m e
made n m d e p q = rw (p, q) refl

coprime : (f : Fraction) → IsLowest f → Coprime f.num f.den
coprime f l = record { positive = l.positive; only_one = l.coprime }

-- two fractions in lowest terms of one value are equal
pub equal : (f g : Fraction) → IsLowest f → IsLowest g → f.num * g.den ≡ g.num * f.den → f ≡ g
equal f g a b e =
    let s = ratios-equal (suc (f.num + f.den)) f.num f.den g.num g.den (omega arith) (coprime f a) (coprime g b) e in
    made f.num g.num f.den g.den s.0 s.1

-- ---- sums

pub plus-is : (f g : Fraction) → IsLowest f → IsLowest g
    → Reduced (crossed f g) (f.den * g.den) (plus f g)
plus-is f g a b = lowest-is _ _ (product-positive f.den g.den a.positive b.positive)

pub plus_comm : (f g : Fraction) → plus f g ≡ plus g f
plus_comm f g =
    let e : f.num * g.den + g.num * f.den ≡ g.num * f.den + f.num * g.den = omega arith in
    let d : f.den * g.den ≡ g.den * f.den = omega arith in
    rw (e, d) refl

-- the numerator of a sum of three over the product of the denominators
abbrev pub crossed3 : Fraction → Fraction → Fraction → ℕ
crossed3 f g h = f.num * g.den * h.den + g.num * f.den * h.den + h.num * f.den * g.den

abbrev pub dens3 : Fraction → Fraction → Fraction → ℕ
dens3 f g h = f.den * g.den * h.den

-- a sum of two plus a third one, over the product of all denominators
three-num : (f g h s : Fraction) → crossed f g * s.den ≡ s.num * (f.den * g.den)
    → (f.den * g.den) * crossed s h ≡ s.den * crossed3 f g h
three-num f g h s e = omega (arith, ap (λ w. w * h.den) e)

three-den : (f g h s : Fraction) → (f.den * g.den) * (s.den * h.den) ≡ s.den * dens3 f g h
three-den f g h s = omega arith

pub three-le : (f g h : Fraction) → IsLowest f → IsLowest g
    → crossed (plus f g) h ≤ (plus f g).den * h.den → crossed3 f g h ≤ dens3 f g h
three-le f g h a b l =
    let s = plus-is f g a b in
    let n = three-num f g h (plus f g) s.value in
    let d = three-den f g h (plus f g) in
    let m = mul-le-mul_left (f.den * g.den) l in
    cancel-le (plus f g).den _ _ s.lowest.positive (omega arith)

pub le-three : (f g h : Fraction) → IsLowest f → IsLowest g → crossed3 f g h ≤ dens3 f g h
    → crossed (plus f g) h ≤ (plus f g).den * h.den
le-three f g h a b l =
    let s = plus-is f g a b in
    let n = three-num f g h (plus f g) s.value in
    let d = three-den f g h (plus f g) in
    let m = mul-le-mul_left (plus f g).den l in
    cancel-le (f.den * g.den) _ _ (product-positive f.den g.den a.positive b.positive) (omega arith)

pub le-two : (f g h : Fraction) → 0 < h.den → crossed3 f g h ≤ dens3 f g h
    → crossed f g ≤ f.den * g.den
le-two f g h p l = cancel-le h.den _ _ p (omega arith)

-- the value of a sum of three
three-value : (f g h s r : Fraction) → 0 < s.den → crossed f g * s.den ≡ s.num * (f.den * g.den)
    → crossed s h * r.den ≡ r.num * (s.den * h.den) → crossed3 f g h * r.den ≡ r.num * dens3 f g h
three-value f g h s r p e k =
    let n = three-num f g h s e in
    cancel s.den _ _ p (omega (arith, ap (λ w. w * r.den) n, ap (λ w. w * (f.den * g.den)) k))

pub plus_assoc : (f g h : Fraction) → IsLowest f → IsLowest g → IsLowest h
    → plus (plus f g) h ≡ plus f (plus g h)
plus_assoc f g h a b c =
    let s = plus-is f g a b in
    let t = plus-is g h b c in
    let l = plus-is (plus f g) h s.lowest c in
    let r = plus-is (plus g h) f t.lowest a in
    let p = three-value f g h (plus f g) (plus (plus f g) h) s.lowest.positive s.value l.value in
    let q = three-value g h f (plus g h) (plus (plus g h) f) t.lowest.positive t.value r.value in
    let d = product-positive (f.den * g.den) h.den (product-positive f.den g.den a.positive b.positive) c.positive in
    equal _ _ l.lowest r.lowest (cancel (dens3 f g h) _ _ d (omega (arith, ap (λ w. w * (plus (plus g h) f).den) p, ap (λ w. w * (plus (plus f g) h).den) q)))
    ∙ plus_comm (plus g h) f

-- a sum of shares that is at most 1 is a share
sum-most : (n d r e : ℕ) → 0 < d → n * e ≡ r * d → n ≤ d → r ≤ e
sum-most n d r e p k l = let m = mul-le-mul_right e l in cancel-le d r e p (omega arith)

sum-positive : (n d r e : ℕ) → 0 < n → 0 < e → n * e ≡ r * d → 0 < r
sum-positive n d zero e p q k = absurd (let m = product-positive n e p q in omega arith)
sum-positive n d (suc r) e p q k = omega arith

pub reduced-share : (n d : ℕ) (r : Fraction) → 0 < n → 0 < d → n ≤ d → Reduced n d r → IsShare r
reduced-share n d r p q l c = record {
  amount = record { lowest = c.lowest; most = sum-most n d r.num r.den q c.value l };
  positive = sum-positive n d r.num r.den p c.lowest.positive c.value;
}

pub plus-share : (f g : Fraction) → IsShare f → IsShare g → crossed f g ≤ f.den * g.den
    → IsShare (plus f g)
plus-share f g a b l =
    let p = product-positive f.num g.den a.positive b.amount.lowest.positive in
    reduced-share _ _ (plus f g) (omega arith) (product-positive f.den g.den a.amount.lowest.positive b.amount.lowest.positive) l (plus-is f g a.amount.lowest b.amount.lowest)

-- what completes a share to a greater one
pub between : Fraction → Fraction → Fraction
between f g = lowest (g.num * f.den - f.num * g.den) (f.den * g.den)

between-is : (f g : Fraction) → IsShare f → IsShare g
    → Reduced (g.num * f.den - f.num * g.den) (f.den * g.den) (between f g)
unfolding between
between-is f g a b = lowest-is _ _ (product-positive f.den g.den a.amount.lowest.positive b.amount.lowest.positive)

pub between-share : (f g : Fraction) → IsShare f → IsShare g → f.num * g.den < g.num * f.den
    → IsShare (between f g)
between-share f g a b l =
    let m = mul-le-mul_right f.den b.amount.most in
    reduced-share _ _ (between f g) (omega arith) (product-positive f.den g.den a.amount.lowest.positive b.amount.lowest.positive) (omega arith) (between-is f g a b)

-- f plus what is between f and g has the value of g
between-value : (fn fd gn gd hn hd c : ℕ) → c + fn * gd ≡ gn * fd → c * hd ≡ hn * (fd * gd)
    → (fd * gd) * (fn * hd + hn * fd) ≡ (fd * gd) * hd * 0 + fd * (hd * (gn * fd))
between-value fn fd gn gd hn hd c e k = omega (arith, ap (λ w. w * (fd * hd)) e, ap (λ w. w * fd) k)

crossed-value : (f g h : Fraction) → 0 < f.den → 0 < g.den
    → (f.den * g.den) * (f.num * h.den + h.num * f.den) ≡ f.den * (h.den * (g.num * f.den))
    → crossed f h * g.den ≡ g.num * (f.den * h.den)
crossed-value f g h p q e = cancel f.den _ _ p (omega arith)

pub between-crossed : (f g : Fraction) → IsShare f → IsShare g → f.num * g.den < g.num * f.den
    → crossed f (between f g) * g.den ≡ g.num * (f.den * (between f g).den)
between-crossed f g a b l =
    let r = between-is f g a b in
    let v = between-value f.num f.den g.num g.den (between f g).num (between f g).den (g.num * f.den - f.num * g.den) (omega arith) r.value in
    crossed-value f g (between f g) a.amount.lowest.positive b.amount.lowest.positive (omega arith)

pub between-fits : (f g : Fraction) → IsShare f → IsShare g → f.num * g.den < g.num * f.den
    → crossed f (between f g) ≤ f.den * (between f g).den
between-fits f g a b l =
    let e = between-crossed f g a b l in
    let m = mul-le-mul_right (f.den * (between f g).den) b.amount.most in
    cancel-le g.den _ _ b.amount.lowest.positive (omega arith)

pub plus-between : (f g : Fraction) → IsShare f → IsShare g → f.num * g.den < g.num * f.den
    → plus f (between f g) ≡ g
plus-between f g a b l =
    let h = between-share f g a b l in
    let s = plus-is f (between f g) a.amount.lowest h.amount.lowest in
    let e = between-crossed f g a b l in
    let d = product-positive f.den (between f g).den a.amount.lowest.positive h.amount.lowest.positive in
    equal _ _ s.lowest b.amount.lowest (cancel (f.den * (between f g).den) _ _ d (omega (arith, ap (λ w. w * g.den) s.value, ap (λ w. w * (plus f (between f g)).den) e)))

-- a share is at most its sum with another
pub le-plus : (f g : Fraction) → IsShare f → IsShare g
    → f.num * (plus f g).den ≤ (plus f g).num * f.den
le-plus f g a b =
    let s = plus-is f g a.amount.lowest b.amount.lowest in
    cancel-le g.den _ _ b.amount.lowest.positive (omega (arith, s.value))

-- the share of numerator and denominator equal is 1
pub one_whole : (f : Fraction) → IsLowest f → f.num ≡ f.den → f ≡ fraction 1 1
one_whole f l e =
    let k : f.den ≡ 1 = l.coprime f.den (subst (λ x. f.den ∣ x) (sym e) (dvd_refl f.den)) (dvd_refl f.den) in
    made f.num 1 f.den 1 (e ∙ k) k

pub whole-share : IsShare (fraction 1 1)
whole-share = record {
  amount = record { lowest = record { positive = omega arith; coprime = λ k p q. eq-one_of_dvd-one q }; most = omega arith };
  positive = omega arith;
}

-- ---- what code computes

pub divisor-positive : (n d g : ℕ) → 0 < d → IsGcd n d g → 0 < g
divisor-positive n d zero h g = absurd (let p : 0 * (d / 0) ≡ d = mul-div_cancel' 0 g.1 in omega arith)
divisor-positive n d (suc g) h k = omega arith

pub lowest-by : (n d g : ℕ) → IsGcd n d g → lowest n d ≡ fraction (n / g) (d / g)
unfolding lowest
lowest-by n d g h = rw (gcd-only n d g h) refl

pub lowest-from : (f : Fraction) (g : ℕ) → 0 < f.den → IsGcd f.num f.den g → g ≡ 1 → IsLowest f
lowest-from f g h is e = record { positive = h; coprime = λ k a b. eq-one_of_dvd-one (subst (λ x. k ∣ x) e (is.2 k a b)) }

pub from-lowest : (f : Fraction) (g : ℕ) → IsGcd f.num f.den g → IsLowest f → g ≡ 1
from-lowest f g is l = l.coprime g is.0 is.1

pub amount-from : (f : Fraction) (g : ℕ) → 0 < f.den → f.num ≤ f.den → IsGcd f.num f.den g → g ≡ 1
    → IsAmount f
amount-from f g h l is e = record { lowest = lowest-from f g h is e; most = l }
