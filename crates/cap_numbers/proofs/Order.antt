-- The order of the whole numbers, and of their products.
use Rattle.std.proofs.Common.{◌≡◌, zero, suc, ℤ, pos, negsuc, ◌-ℤ◌, ◌*ℤ◌, ◌≤ℤ◌, ◌<ℤ◌, arith, refl, ◌⊎◌, inl, inr}
use Rattle.std.proofs.lemmas.Int.{ints}
use Rattle.cap_numbers.proofs.Ring.{expand}

pub mul-nonneg : (a b : ℤ) → pos 0 ≤ℤ a → pos 0 ≤ℤ b → pos 0 ≤ℤ (a *ℤ b)
mul-nonneg (pos a) (pos b) h k = omega (arith, ints)
mul-nonneg (pos a) (negsuc b) h k = absurd (omega (arith, ints))
mul-nonneg (negsuc a) b h k = absurd (omega (arith, ints))

pub mul-pos : (a b : ℤ) → pos 0 <ℤ a → pos 0 <ℤ b → pos 0 <ℤ (a *ℤ b)
mul-pos (pos zero) b h k = absurd (omega (arith, ints))
mul-pos (pos (suc a)) (pos zero) h k = absurd (omega (arith, ints))
mul-pos (pos (suc a)) (pos (suc b)) h k = omega (arith, ints)
mul-pos (pos (suc a)) (negsuc b) h k = absurd (omega (arith, ints))
mul-pos (negsuc a) b h k = absurd (omega (arith, ints))

pub mul-le : (a b c : ℤ) → pos 0 ≤ℤ a → b ≤ℤ c → (a *ℤ b) ≤ℤ (a *ℤ c)
mul-le a b c h k =
    let s : pos 0 ≤ℤ (c -ℤ b) = omega (arith, ints) in
    let p : pos 0 ≤ℤ (a *ℤ c -ℤ a *ℤ b) = simp expand at (mul-nonneg a (c -ℤ b) h s) in
    omega (arith, ints)

pub mul-lt : (a b c : ℤ) → pos 0 <ℤ a → b <ℤ c → (a *ℤ b) <ℤ (a *ℤ c)
mul-lt a b c h k =
    let s : pos 0 <ℤ (c -ℤ b) = omega (arith, ints) in
    let p : pos 0 <ℤ (a *ℤ c -ℤ a *ℤ b) = simp expand at (mul-pos a (c -ℤ b) h s) in
    omega (arith, ints)

pub le_or_lt : (a b : ℤ) → (a ≤ℤ b) ⊎ (b <ℤ a)
le_or_lt a b = grind (arith, ints)

pub cancel-le : (a b c : ℤ) → pos 0 <ℤ a → (a *ℤ b) ≤ℤ (a *ℤ c) → b ≤ℤ c
cancel-le a b c h k = elim (le_or_lt b c) [ inl q ↦ q | inr q ↦ let l = mul-lt a c b h q in absurd (omega (arith, ints)) ]

-- a whole number is below 0, 0 or above 0
pub sign_of : (z : ℤ) → (z <ℤ pos 0) ⊎ ((z ≡ pos 0) ⊎ (pos 0 <ℤ z))
sign_of (pos zero) = inr (inl refl)
sign_of (pos (suc n)) = inr (inr (omega (arith, ints)))
sign_of (negsuc n) = inl (omega (arith, ints))
