-- Past all sums of an algebra there is none, and a sum has two sides.
use Rattle.std.proofs.Common.{◌≡◌, ℕ, zero, suc, ◌+◌, ◌-◌, ◌≤◌, ◌<◌, arith, refl, ap, ◌∙◌, None}
use Rattle.std.specs.Prelude.{nat_lt, if◌then◌else◌, Result, Ok, Err, IfOk}
use Rattle.std.specs.declared.alloc.AllocError.{AllocError}
use Rattle.cap_galg.specs.Algebras.{PlainAlgebra, unique, divisible, counting, indexed, product, sum as either, atoms}
use Rattle.cap_galg.specs.Laws.Atoms.{lt-true, lt-false}
use Rattle.cap_rules.specs.Taking.{Sides, sum_count, sum_in, given_side}
use Rattle.cap_take_guards.specs.Sums.{IsWalked}
use Rattle.cap_take_guards.specs.declared.sums.Sides as code
use Rattle.cap_take_guards.specs.declared.sums.Walked.{Walked}
use Rattle.cap_take_guards.specs.declared.sums.Walked.TheVariants.{Found, Past}

-- on the second side
passed : {A : Type 0} (n m : ℕ) (x y : A) → m ≤ n → (if nat_lt n m then x else y) ≡ y
passed n m x y h = ap (λ b. if b then x else y) (lt-false n m h)

-- on the first side
stayed : {A : Type 0} (n m : ℕ) (x y : A) → n < m → (if nat_lt n m then x else y) ≡ x
stayed n m x y h = ap (λ b. if b then x else y) (lt-true n m h)

no-sum : (a : PlainAlgebra) (i n : ℕ) → sum_count a ≤ n → sum_in a i n ≡ None
no-sum unique i n h = refl
no-sum divisible i n h = refl
no-sum counting i n h = refl
no-sum indexed i n h = refl
no-sum (product a b) i n h =
    let m : sum_count a ≤ n = omega (arith, h) in
    let l : sum_count b ≤ n - sum_count a = omega (arith, h) in
    passed n (sum_count a) (sum_in a i n) (sum_in b (i + atoms a) (n - sum_count a)) m ∙ no-sum b (i + atoms a) (n - sum_count a) l
no-sum (either a b) i zero h =
    let l : suc (sum_count a + sum_count b) ≤ 0 = h in
    absurd (omega (arith, l))
no-sum (either a b) i (suc n) h =
    let l : suc (sum_count a + sum_count b) ≤ suc n = h in
    let m : sum_count a ≤ n = omega (arith, l) in
    let k : sum_count b ≤ n - sum_count a = omega (arith, l) in
    passed n (sum_count a) (sum_in a i n) (sum_in b (i + atoms a) (n - sum_count a)) m ∙ no-sum b (i + atoms a) (n - sum_count a) k

pub past-all : (a : PlainAlgebra) (i n rest next : ℕ) → IsWalked a i n (Past rest next) → sum_in a i n ≡ None
past-all a i n rest next h =
    let l : sum_count a ≤ n = omega (arith, h.0) in
    no-sum a i n l

pub none-given : (x : Sides) (side : ℕ) → (side ≡ 0 → ⊥) → (side ≡ 1 → ⊥) → given_side x side ≡ None
none-given x zero h k = absurd (h refl)
none-given x (suc zero) h k = absurd (k refl)
none-given x (suc (suc side)) h k = refl

-- a walk into a sum that isn't the one looked for: it ends on the first side, or goes on on the second
pub ends-first : (a b : PlainAlgebra) (i n : ℕ) (x : code.Sides) → 0 < n → IsWalked a i (n - 1) (Found x) → IsWalked (either a b) i n (Found x)
ends-first a b i zero x l h = absurd (omega (arith, l))
ends-first a b i (suc n) x l h =
    let m : suc n - 1 ≡ n = omega arith in
    let k = rw m at h in
    (omega (arith, k.0), stayed n (sum_count a) (sum_in a i n) (sum_in b (i + atoms a) (n - sum_count a)) k.0 ∙ k.1)

goes-second : (a b : PlainAlgebra) (i n rest next : ℕ) (w : Walked) → sum_count a + rest ≡ n → next ≡ i + atoms a → IsWalked b next rest w → IsWalked (either a b) i (suc n) w
goes-second a b i n rest next (Found x) e f h =
    let m : rest ≡ n - sum_count a = omega (arith, e) in
    let l : sum_count a ≤ n = omega (arith, e) in
    let k = rw (f, m) at h in
    (omega (arith, h.0, e), passed n (sum_count a) (sum_in a i n) (sum_in b (i + atoms a) (n - sum_count a)) l ∙ k.1)
goes-second a b i n rest next (Past more last) e f h = (omega (arith, e, h.0), omega (arith, f, h.1))

pub ends-second : (a b : PlainAlgebra) (i n rest next : ℕ) (r : Result Walked AllocError) → 0 < n → IsWalked a i (n - 1) (Past rest next) → IfOk r (IsWalked b next rest) → IfOk r (IsWalked (either a b) i n)
ends-second a b i zero rest next r l h k = absurd (omega (arith, l))
ends-second a b i (suc n) rest next (Err e) l h k = tt
ends-second a b i (suc n) rest next (Ok w) l h k =
    let m : sum_count a + rest ≡ n = omega (arith, h.0) in
    goes-second a b i n rest next w m h.1 k
