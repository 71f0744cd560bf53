-- Shares over the one denominator: their sums, and which of them is all of a guard.
use Rattle.std.proofs.Common.{◌≡◌, ℕ, ◌+◌, ◌*◌, ◌≤◌, ◌<◌, ◌==◌, arith, refl, ap, sym, ◌∙◌, true, false, inl, inr}
use Rattle.std.specs.Prelude.{nat_le}
use Rattle.std.proofs.lemmas.Bool.{cases_eq}
use Rattle.std.proofs.lemmas.Bool.Decides.{nat_tests}
use Rattle.std.proofs.Math.Nat.{mul-le-mul_left}
use Rattle.cap_galg.specs.cap_galg_spec.declared.fraction.Fraction.{Fraction}
use Rattle.cap_galg.specs.Fractions.{fraction, lowest, gcd, crossed, plus}
use Rattle.cap_galg.specs.Laws.Fractions.{lowest-is, equal, cancel, cancel-le, product-positive, plus-is}
use Rattle.cap_galg.specs.Elements.{share, is_full}
use Rattle.cap_owners_spec.specs.Traced.{traced, untold, over}
use Rattle.cap_owners_parts.specs.Composed.{composed_element}

-- for any denominator above 0
sum-value : (n m d : ℕ) (f g : Fraction) → n * f.den ≡ f.num * d → m * g.den ≡ g.num * d → d * crossed f g ≡ (n + m) * (f.den * g.den)
sum-value n m d f g p q = omega (arith, ap (λ x. x * g.den) p, ap (λ x. x * f.den) q)

pub plus-over : (n m d : ℕ) → 0 < d → plus (lowest n d) (lowest m d) ≡ lowest (n + m) d
plus-over n m d h =
    let f = lowest-is n d h in
    let g = lowest-is m d h in
    let s = plus-is (lowest n d) (lowest m d) f.lowest g.lowest in
    let r = lowest-is (n + m) d h in
    let v = sum-value n m d (lowest n d) (lowest m d) f.value g.value in
    let p = product-positive (lowest n d).den (lowest m d).den f.lowest.positive g.lowest.positive in
    equal _ _ s.lowest r.lowest (cancel (d * ((lowest n d).den * (lowest m d).den)) _ _ (product-positive d _ h p) (
    omega (arith, ap (λ x. x * (d * (lowest (n + m) d).den)) s.value, ap (λ x. x * ((plus (lowest n d) (lowest m d)).den * (lowest (n + m) d).den)) v, ap (λ x. x * (((lowest n d).den * (lowest m d).den) * (plus (lowest n d) (lowest m d)).den)) r.value)))

pub fits-over : (n m d : ℕ) → 0 < d → n + m ≤ d → crossed (lowest n d) (lowest m d) ≤ (lowest n d).den * (lowest m d).den
fits-over n m d h l =
    let f = lowest-is n d h in
    let g = lowest-is m d h in
    let v = sum-value n m d (lowest n d) (lowest m d) f.value g.value in
    let e = mul-le-mul_left ((lowest n d).den * (lowest m d).den) l in
    cancel-le d _ _ h (omega (arith, v, e))

pub fits-over_back : (n m d : ℕ) → 0 < d → crossed (lowest n d) (lowest m d) ≤ (lowest n d).den * (lowest m d).den → n + m ≤ d
fits-over_back n m d h l =
    let f = lowest-is n d h in
    let g = lowest-is m d h in
    let v = sum-value n m d (lowest n d) (lowest m d) f.value g.value in
    let p = product-positive (lowest n d).den (lowest m d).den f.lowest.positive g.lowest.positive in
    let e = mul-le-mul_left d l in
    cancel-le ((lowest n d).den * (lowest m d).den) _ _ p (omega (arith, v, e))

over-positive : 0 < over
over-positive = omega arith

pub shares_there : (n m : ℕ) → n + m ≤ over → composed_element (share (lowest n over)) (share (lowest m over)) ≡ traced (share (lowest (n + m) over))
shares_there n m l =
    let t : nat_le (crossed (lowest n over) (lowest m over)) ((lowest n over).den * (lowest m over).den) ≡ true = le-true _ _ (fits-over n m over over-positive l) in
    rw t (ap (λ f. traced (share f)) (plus-over n m over over-positive))
  where
    le-true : (a b : ℕ) → a ≤ b → nat_le a b ≡ true
    le-true a b h = grind (arith, nat_tests)

pub shares_untold : (n m : ℕ) → over < n + m → composed_element (share (lowest n over)) (share (lowest m over)) ≡ untold
shares_untold n m l =
    let t : nat_le (crossed (lowest n over) (lowest m over)) ((lowest n over).den * (lowest m over).den) ≡ false = le-false _ _ (λ k. let j = fits-over_back n m over over-positive k in omega arith) in
    rw t refl
  where
    le-false : (a b : ℕ) → (a ≤ b → ⊥) → nat_le a b ≡ false
    le-false a b h = grind (arith, nat_tests)

one-over : lowest over over ≡ fraction 1 1
unfolding lowest gcd
one-over = refl

pub all_is : share (lowest over over) ≡ share (fraction 1 1)
all_is = ap share one-over

eq-true : (a b : ℕ) → a ≡ b → (a == b) ≡ true
eq-true a b h = grind (arith, nat_tests)

eq-false : (a b : ℕ) → (a ≡ b → ⊥) → (a == b) ≡ false
eq-false a b h = grind (arith, nat_tests)

same-back : (n : ℕ) → (lowest n over).num ≡ (lowest n over).den → n ≡ over
same-back n e =
    let f = lowest-is n over over-positive in
    cancel (lowest n over).den _ _ f.lowest.positive (omega (arith, f.value, ap (λ x. x * over) e))

pub all_only : (n : ℕ) → (n ≡ over → ⊥) → is_full (share (lowest n over)) ≡ false
all_only n h = eq-false _ _ (λ e. h (same-back n e))

pub all_full : (n : ℕ) → n ≡ over → is_full (share (lowest n over)) ≡ true
all_full n e = rw (e, one-over) refl

pub all_seen : (n : ℕ) → (n == over) ≡ is_full (share (lowest n over))
all_seen n = elim (cases_eq n over) [
  | inl e ↦ eq-true n over e ∙ sym (all_full n e)
  | inr h ↦ eq-false n over h ∙ sym (all_only n h)
]
