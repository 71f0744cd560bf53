-- The amounts and counts of forms: what they are where the forms' elements compose.
use Rattle.std.proofs.Common.{◌≡◌, ℕ, zero, suc, ◌+◌, ◌*◌, ◌-◌, ◌≤◌, ◌<◌, ℤ, pos, negsuc, ◌+ℤ◌, ◌*ℤ◌, ◌≤ℤ◌, ◌<ℤ◌, arith, refl, ap}
use Rattle.std.proofs.lemmas.Int.{ints}
use Rattle.std.proofs.Math.Nat.{mul-le-mul_right}
use Rattle.cap_lin.specs.Linear.{Linear, plus, minus, negative}
use Rattle.cap_lin.specs.Values.{RationalValuation, Valuation, denominator, parts_value, value, amount}
use Rattle.cap_lin.proofs.Values.{amount-plus, value-plus, value-times}
use Rattle.cap_galg.specs.cap_galg_spec.declared.fraction.Fraction.{Fraction}
use Rattle.cap_galg.specs.Fractions.{IsShare, crossed, plus as sum_of}
use Rattle.cap_galg.specs.Laws.Fractions.{product-positive, cancel-le, cancel, plus-is}
use Rattle.cap_gsolve.specs.Merge.{zero_term, one_term}
use Rattle.cap_gsolve.specs.Meaning.{IsValueOf}

pub one-amount : (q : RationalValuation) → amount q one_term ≡ denominator q
unfolding amount parts_value
one-amount q = omega (arith, ints)

pub zero-amount : (q : RationalValuation) → amount q zero_term ≡ pos 0
unfolding amount parts_value
zero-amount q = omega (arith, ints)

pub zero-value : (n : ℕ → ℤ) → value n zero_term ≡ pos 0
unfolding value parts_value
zero-value n = refl

-- an amount with the value of a fraction is a natural number
pub record IsNatural (z : ℤ) (n d u : ℕ) : Type 0 where
  pub number : ℕ
  pub is : z ≡ pos number
  pub ratio : n * suc u ≡ number * d

natural : (z : ℤ) (n d u : ℕ) → 0 < d → pos n *ℤ pos (u + 1) ≡ z *ℤ pos d → IsNatural z n d u
natural (pos m) n d u p e = record { number = m; is = refl; ratio = omega (arith, ints) }
natural (negsuc m) n zero u p e = absurd (omega arith)
natural (negsuc m) n (suc d) u p e = absurd (omega (arith, ints))

pub natural-amount : (v : Valuation) (t : Linear) (f : Fraction) → IsShare f → IsValueOf v t f → IsNatural (amount v.fraction t) f.num f.den v.fraction.under
natural-amount v t f s e = natural (amount v.fraction t) f.num f.den v.fraction.under s.amount.lowest.positive e

-- an amount is above 0
positive-number : (n d u m : ℕ) → 0 < n → n * suc u ≡ m * d → 0 < m
positive-number n d u zero p e = absurd (let q = product-positive n (suc u) p (omega arith) in omega arith)
positive-number n d u (suc m) p e = omega arith

pub amount-positive : (v : Valuation) (t : Linear) (f : Fraction) → IsShare f → IsValueOf v t f → pos 0 <ℤ amount v.fraction t
amount-positive v t f s e =
    let m = natural-amount v t f s e in
    let p = positive-number f.num f.den v.fraction.under m.number s.positive m.ratio in
    rw (m.is) (omega (arith, ints, p))

-- and at most 1
number-most : (n d u m : ℕ) → 0 < d → n ≤ d → n * suc u ≡ m * d → m ≤ suc u
number-most n d u m p l e = cancel-le d m (suc u) p (let k : n * suc u ≤ d * suc u = mul-le-mul_right (suc u) l in omega arith)

pub amount-most : (v : Valuation) (t : Linear) (f : Fraction) → IsShare f → IsValueOf v t f → amount v.fraction t ≤ℤ denominator v.fraction
amount-most v t f s e =
    let m = natural-amount v t f s e in
    let p = number-most f.num f.den v.fraction.under m.number s.amount.lowest.positive s.amount.most m.ratio in
    rw (m.is) (omega (arith, ints, p))

-- the sum of two amounts
pub sum-number : (fn fd gn gd u m n : ℕ) → fn * suc u ≡ m * fd → gn * suc u ≡ n * gd → (fn * gd + gn * fd) * suc u ≡ (m + n) * (fd * gd)
sum-number fn fd gn gd u m n e k = omega (arith, ap (λ w. w * gd) e, ap (λ w. w * fd) k)

sum-value : (c d sn sd u m : ℕ) → 0 < d → c * suc u ≡ m * d → c * sd ≡ sn * d → sn * suc u ≡ m * sd
sum-value c d sn sd u m p e k = cancel d (sn * suc u) (m * sd) p (omega (arith, ap (λ w. w * sd) e, ap (λ w. w * suc u) k))

pub sum-most : (v : Valuation) (s t : Linear) (f g : Fraction) → IsShare f → IsShare g → IsValueOf v s f → IsValueOf v t g → crossed f g ≤ f.den * g.den → amount v.fraction (plus s t) ≤ℤ denominator v.fraction
sum-most v s t f g p q e k l =
    let m = natural-amount v s f p e in
    let n = natural-amount v t g q k in
    let c = sum-number f.num f.den g.num g.den v.fraction.under m.number n.number m.ratio n.ratio in
    let b = number-most (crossed f g) (f.den * g.den) v.fraction.under (m.number + n.number) (product-positive f.den g.den p.amount.lowest.positive q.amount.lowest.positive) l c in
    rw (amount-plus v.fraction s t, m.is, n.is) (omega (arith, ints, b))

pub sum-is : (v : Valuation) (s t : Linear) (f g : Fraction) → IsShare f → IsShare g → IsValueOf v s f → IsValueOf v t g → IsValueOf v (plus s t) (sum_of f g)
sum-is v s t f g p q e k =
    let m = natural-amount v s f p e in
    let n = natural-amount v t g q k in
    let c = sum-number f.num f.den g.num g.den v.fraction.under m.number n.number m.ratio n.ratio in
    let r = (plus-is f g p.amount.lowest q.amount.lowest).value in
    let b = sum-value (crossed f g) (f.den * g.den) (sum_of f g).num (sum_of f g).den v.fraction.under (m.number + n.number) (product-positive f.den g.den p.amount.lowest.positive q.amount.lowest.positive) c r in
    rw (amount-plus v.fraction s t, m.is, n.is) (made (sum_of f g).num (sum_of f g).den v.fraction.under m.number n.number b)
  where
    made : (sn sd u m n : ℕ) → sn * suc u ≡ (m + n) * sd → pos sn *ℤ pos (u + 1) ≡ (pos m +ℤ pos n) *ℤ pos sd
    made sn sd u m n b = omega (arith, ints, b)

-- ---- counts

pub count-positive : (z : ℤ) (n : ℕ) → z ≡ pos n → pos 0 ≤ℤ z
count-positive z n e = rw e (omega (arith, ints))

pub counts-most : (y z : ℤ) (k n : ℕ) → y ≡ pos k → z ≡ pos n → k ≤ n → y ≤ℤ z
counts-most y z k n e f l = rw (e, f) (omega (arith, ints, l))

pub counts-sum : (v : Valuation) (s t : Linear) (j k : ℕ) → value v.whole s ≡ pos j → value v.whole t ≡ pos k → value v.whole (plus s t) ≡ pos (j + k)
counts-sum v s t j k e f = rw (value-plus v.whole s t, e, f) (omega (arith, ints))

pub counts-rest : (v : Valuation) (s t : Linear) (n k : ℕ) → value v.whole s ≡ pos n → value v.whole t ≡ pos k → k ≤ n → value v.whole (minus s t) ≡ pos (n - k)
counts-rest v s t n k e f l = rw (value-plus v.whole s (negative t), value-times v.whole (negsuc 0) t, e, f) (omega (arith, ints, l))
