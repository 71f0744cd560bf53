-- The ring of the whole numbers. `omega (arith, ints)` knows their sums and products of two; with
-- `simp expand (omega (arith, ints, product3))` it decides equations of products of three.
use Rattle.std.proofs.Common.{◌≡◌, ℕ, ◌+◌, ◌*◌, ℤ, ◌+ℤ◌, ◌*ℤ◌, neg_ℤ, arith, ap}
use Rattle.std.proofs.lemmas.Int.{ints}
use borrow.Author.Differences.{up, down, sum_is_lem, product_is, same_in}

pub mul-add : (a b c : ℤ) → a *ℤ (b +ℤ c) ≡ a *ℤ b +ℤ a *ℤ c
mul-add a b c = let s = sum_is_lem b c in omega (arith, ints, ap (λ x. x * up a) s, ap (λ x. x * down a) s)

pub add-mul : (a b c : ℤ) → (a +ℤ b) *ℤ c ≡ a *ℤ c +ℤ b *ℤ c
add-mul a b c = let s = sum_is_lem a b in omega (arith, ints, ap (λ x. x * up c) s, ap (λ x. x * down c) s)

pub mul-neg : (a b : ℤ) → a *ℤ neg_ℤ b ≡ neg_ℤ (a *ℤ b)
mul-neg a b = grind (arith, ints)

pub neg-mul : (a b : ℤ) → neg_ℤ a *ℤ b ≡ neg_ℤ (a *ℤ b)
neg-mul a b = grind (arith, ints)

-- the parts above and below 0 of a product of two
abbrev up2 : ℤ → ℤ → ℕ
up2 a b = up a * up b + down a * down b

abbrev down2 : ℤ → ℤ → ℕ
down2 a b = up a * down b + down a * up b

abbrev up3 : ℤ → ℤ → ℤ → ℕ
up3 a b c = up2 a b * up c + down2 a b * down c

abbrev down3 : ℤ → ℤ → ℤ → ℕ
down3 a b c = up2 a b * down c + down2 a b * up c

pub product3 : (a b c : ℤ) → (up (a *ℤ b *ℤ c) ≡ up3 a b c) × (down (a *ℤ b *ℤ c) ≡ down3 a b c)
product3 a b c =
    let p = product_is a b in
    let q = product_is (a *ℤ b) c in
    omega (arith, ap (λ x. x * up c) p.0, ap (λ x. x * down c) p.0, ap (λ x. x * up c) p.1, ap (λ x. x * down c) p.1)

product3_right : (a b c : ℤ) → (up (a *ℤ (b *ℤ c)) ≡ up3 a b c) × (down (a *ℤ (b *ℤ c)) ≡ down3 a b c)
product3_right a b c =
    let p = product_is b c in
    let q = product_is a (b *ℤ c) in
    omega (arith, ap (λ x. x * up a) p.0, ap (λ x. x * down a) p.0, ap (λ x. x * up a) p.1, ap (λ x. x * down a) p.1)

pub product4 : (a b c d : ℤ) → (up (a *ℤ b *ℤ c *ℤ d) ≡ up3 a b c * up d + down3 a b c * down d) × (down (a *ℤ b *ℤ c *ℤ d) ≡ up3 a b c * down d + down3 a b c * up d)
product4 a b c d =
    let p = product3 a b c in
    let q = product_is (a *ℤ b *ℤ c) d in
    omega (arith, ap (λ x. x * up d) p.0, ap (λ x. x * down d) p.0, ap (λ x. x * up d) p.1, ap (λ x. x * down d) p.1)

pub mul_assoc : (a b c : ℤ) → a *ℤ (b *ℤ c) ≡ a *ℤ b *ℤ c
mul_assoc a b c = let p = product3 a b c in let q = product3_right a b c in same_in _ _ (omega (arith, p, q))

-- a product of sums as a sum of products, each from left to right
pub ruleset expand = (mul-add, add-mul, mul-neg, neg-mul, mul_assoc)
