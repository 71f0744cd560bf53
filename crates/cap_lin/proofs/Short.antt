-- A product of two short numbers is within 128 bits, and so is a sum of two such products.
use Rattle.std.proofs.Common.{◌≡◌, ℤ, pos, negsuc, neg_ℤ, ◌+ℤ◌, ◌-ℤ◌, ◌*ℤ◌, ◌≤ℤ◌, ◌^◌, arith, FitsSigned, [], None, ◌∙◌}
use Rattle.std.proofs.lemmas.Int.{ints}
use mir.Syntax.{w128}
use Rattle.cap_numbers.proofs.Ring.{expand}
use Rattle.cap_numbers.proofs.Order.{mul-nonneg}
use Rattle.cap_lin.specs.Steps.{first_wide, part_steps}
use Rattle.cap_lin.specs.Exact.{IsShort}
use Rattle.cap_lin.proofs.Results.{product-fits, sum-fits, first_wide-nil}

-- a product of two numbers between -l and l is between -l*l and l*l
between : (l a b : ℤ) → pos 0 ≤ℤ (l +ℤ a) → pos 0 ≤ℤ (l -ℤ a) → pos 0 ≤ℤ (l +ℤ b) → pos 0 ≤ℤ (l -ℤ b) → ((a *ℤ b) ≤ℤ (l *ℤ l)) × (neg_ℤ (l *ℤ l) ≤ℤ (a *ℤ b))
between l a b h k m n =
    let p : pos 0 ≤ℤ (l *ℤ l +ℤ a *ℤ l +ℤ (neg_ℤ (l *ℤ b) +ℤ neg_ℤ (a *ℤ b))) = simp expand at (mul-nonneg (l +ℤ a) (l -ℤ b) h n) in
    let q : pos 0 ≤ℤ (l *ℤ l +ℤ neg_ℤ (a *ℤ l) +ℤ (l *ℤ b +ℤ neg_ℤ (a *ℤ b))) = simp expand at (mul-nonneg (l -ℤ a) (l +ℤ b) k m) in
    let r : pos 0 ≤ℤ (l *ℤ l +ℤ a *ℤ l +ℤ (l *ℤ b +ℤ a *ℤ b)) = simp expand at (mul-nonneg (l +ℤ a) (l +ℤ b) h m) in
    let s : pos 0 ≤ℤ (l *ℤ l +ℤ neg_ℤ (a *ℤ l) +ℤ (neg_ℤ (l *ℤ b) +ℤ neg_ℤ (neg_ℤ (a *ℤ b)))) = simp expand at (mul-nonneg (l -ℤ a) (l -ℤ b) k n) in
    (omega (arith, ints), omega (arith, ints))

fits-between : (z : ℤ) → z ≤ℤ pos (2 ^ 125) → neg_ℤ (pos (2 ^ 125)) ≤ℤ z → FitsSigned w128 z
fits-between (pos n) h k = record { sfits = omega (arith, ints) }
fits-between (negsuc n) h k = record { sfits = omega (arith, ints) }

short-between : (a b : ℤ) → IsShort a → IsShort b → ((a *ℤ b) ≤ℤ pos (2 ^ 124)) × (neg_ℤ (pos (2 ^ 124)) ≤ℤ (a *ℤ b))
short-between a b h k = between (pos (2 ^ 62)) a b (omega (arith, ints)) (omega (arith, ints)) (omega (arith, ints)) (omega (arith, ints))

pub product-short : (a b : ℤ) → IsShort a → IsShort b → FitsSigned w128 (a *ℤ b)
product-short a b h k =
    let t = short-between a b h k in
    fits-between (a *ℤ b) (omega (arith, ints, t.0)) (omega (arith, ints, t.1))

pub sum-short : (a l b r : ℤ) → IsShort a → IsShort l → IsShort b → IsShort r → FitsSigned w128 (a *ℤ l +ℤ b *ℤ r)
sum-short a l b r h k m n =
    let s = short-between a l h k in
    let t = short-between b r m n in
    fits-between (a *ℤ l +ℤ b *ℤ r) (omega (arith, ints, s.0, t.0)) (omega (arith, ints, s.1, t.1))

-- two products of short numbers, and their sum
combined-short : (a l b r : ℤ) → IsShort a → IsShort l → IsShort b → IsShort r → first_wide (part_steps a l b r []) ≡ None
combined-short a l b r h k m n =
    product-fits a l _ (product-short a l h k) ∙ product-fits b r _ (product-short b r m n) ∙ sum-fits _ _ [] (sum-short a l b r h k m n) ∙ first_wide-nil

pub is-combined : (a l b r a' l' b' r' : ℤ) → a' ≡ a → l' ≡ l → b' ≡ b → r' ≡ r → IsShort a' → IsShort l' → IsShort b' → IsShort r' → first_wide (part_steps a l b r []) ≡ None
is-combined a l b r a' l' b' r' p q s t h k m n = rw (← p, ← q, ← s, ← t) (combined-short a' l' b' r' h k m n)
