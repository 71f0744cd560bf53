-- Another number for one variable, over a larger denominator.
use Rattle.std.proofs.Common.{◌≡◌, ℕ, zero, suc, ℤ, pos, negsuc, ◌+◌, ◌*◌, ◌+ℤ◌, ◌-ℤ◌, ◌*ℤ◌, ◌<ℤ◌, List, [], ◌∷◌, arith, refl, subst, true, false, inl, inr}
use Rattle.std.specs.Prelude.{◌==◌}
use Rattle.std.proofs.lemmas.Bool.Decides.{nat_tests}
use Rattle.std.proofs.lemmas.Int.{ints}
use Rattle.cap_numbers.proofs.Ring.{expand, product3}
use Rattle.cap_numbers.proofs.Order.{mul-le, mul-lt, cancel-le}
use Rattle.cap_lin.specs.Linear.{Linear, coefficient}
use Rattle.cap_lin.specs.Values.{RationalValuation, parts_value, amount, changed}
use Rattle.cap_lin.specs.Solves.{HoldsAs}
use Rattle.cap_lin.specs.declared.row.Kind.{Kind}
use Rattle.cap_lin.specs.declared.row.Kind.TheVariants.{Le, Lt, Eq, Ne}
use Rattle.cap_lin.proofs.Places.{coefficient-same, coefficient-other, coefficient-nil, tested}
use Rattle.cap_lin.proofs.Values.{value-nil, value-cons}

-- m times u + 1, less 1, where m is above 0
abbrev pub under_times : ℤ → ℕ → ℕ
under_times (pos zero) u = u
under_times (pos (suc k)) u = k * (u + 1) + u
under_times (negsuc k) u = u

-- all numbers times m, and x at a variable
abbrev pub lifted_to : (ℕ → ℤ) → ℕ → ℤ → ℤ → ℕ → ℤ
lifted_to n x m z = changed (λ y. m *ℤ n y) x z

pub lifted : RationalValuation → ℕ → ℤ → ℤ → RationalValuation
lifted q x m z = record { numerator = lifted_to q.numerator x m z; under = under_times m q.under }

under-times : (m : ℤ) (u : ℕ) → pos 0 <ℤ m → pos (under_times m u + 1) ≡ m *ℤ pos (u + 1)
under-times (pos zero) u h = absurd (omega (arith, ints))
under-times (pos (suc k)) u h = omega (arith, ints)
under-times (negsuc k) u h = absurd (omega (arith, ints))

changed-same : (n : ℕ → ℤ) (x : ℕ) (z : ℤ) → changed n x z x ≡ z
changed-same n x z = let t : (x == x) ≡ true = grind (arith, nat_tests) in rw t refl

changed-other : (n : ℕ → ℤ) (x : ℕ) (z : ℤ) (y : ℕ) → (y ≡ x → ⊥) → changed n x z y ≡ n y
changed-other n x z y d = let t : (y == x) ≡ false = grind (arith, nat_tests) in rw t refl

lifted-parts : (n : ℕ → ℤ) (x : ℕ) (m z : ℤ) (ps : List (ℕ × ℤ)) → parts_value (lifted_to n x m z) ps ≡ m *ℤ parts_value n ps +ℤ coefficient x ps *ℤ (z -ℤ m *ℤ n x)
lifted-parts n x m z [] = rw (value-nil, value-nil n, coefficient-nil x) (omega (arith, ints))
lifted-parts n x m z (p ∷ ps) =
    let ih = lifted-parts n x m z ps in
    elim (tested p.0 x) [
      | inl s ↦ rw (value-cons (lifted_to n x m z) p ps, value-cons n p ps, coefficient-same x p ps s, ih, s, changed-same (λ y. m *ℤ n y) x z) (simp expand (omega (arith, ints, product3)))
      | inr d ↦ rw (value-cons (lifted_to n x m z) p ps, value-cons n p ps, coefficient-other x p ps d, ih, changed-other (λ y. m *ℤ n y) x z p.0 d) (simp expand (omega (arith, ints, product3)))
    ]

pub lifted-amount : (q : RationalValuation) (x : ℕ) (m z : ℤ) (t : Linear) → pos 0 <ℤ m → amount (lifted q x m z) t ≡ m *ℤ amount q t +ℤ coefficient x t.parts *ℤ (z -ℤ m *ℤ q.numerator x)
unfolding amount lifted
lifted-amount q x m z t h = rw (lifted-parts q.numerator x m z t.parts, under-times m q.under h) (simp expand (omega (arith, ints, product3)))

-- ---- a positive multiple is as a kind wants it where the number is

pub not-zero : (m z : ℤ) → pos 0 <ℤ m → m *ℤ z ≡ pos 0 → z ≡ pos 0
not-zero m z h e = let l = cancel-le m z (pos 0) h (omega (arith, ints)) in let k = cancel-le m (pos 0) z h (omega (arith, ints)) in omega (arith, ints)

pub times-holds : (k : Kind) (m z : ℤ) → pos 0 <ℤ m → HoldsAs k z → HoldsAs k (m *ℤ z)
times-holds Le m z h a = let l = mul-le m z (pos 0) (omega (arith, ints)) a in omega (arith, ints)
times-holds Lt m z h a = let l = mul-lt m z (pos 0) h a in omega (arith, ints)
times-holds Eq m z h a = rw a (omega (arith, ints))
times-holds Ne m z h a = λ e. a (not-zero m z h e)

-- a term that lacks the variable
pub lacking-holds : (q : RationalValuation) (x : ℕ) (m z : ℤ) (k : Kind) (t : Linear) → pos 0 <ℤ m → coefficient x t.parts ≡ pos 0 → HoldsAs k (amount q t) → HoldsAs k (amount (lifted q x m z) t)
lacking-holds q x m z k t h e a =
    let d : m *ℤ amount q t ≡ amount (lifted q x m z) t = rw (lifted-amount q x m z t h, e) (omega (arith, ints)) in
    subst (HoldsAs k) d (times-holds k m (amount q t) h a)
