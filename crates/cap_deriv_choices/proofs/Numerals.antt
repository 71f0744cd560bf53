-- `parse` reads the multipliers of the definition.
use Rattle.std.proofs.Common.{◌≡◌, ◌<◌, ◌≤◌, ◌^◌, ◌&&◌, ◌-◌, ℕ, Bool, cond, true, false, refl, sym, ap, ◌∙◌, subst, arith, List, [], ◌∷◌, length, Some, None, option_map, Result, Ok, Err, true≢false}
use Rattle.std.specs.Prelude.{nat_le, ◌==◌, ℤ, pos, neg_ℤ}
use Rattle.std.specs.Str.{all_ascii_digits}
use Rattle.std.specs.Str.Parse.{ParsesSigned, digits_value}
use Rattle.std.specs.Int.RustNames.{FitsSigned}
use Rattle.std.proofs.lemmas.Bool.{le-leb, leb-true, eqb-true}
use Rattle.std.proofs.lemmas.Str.Parse.{IsNumeralModel, numerals_by_value, parse_signed_plain, parse_signed_minus, tells_all_ascii_digits}
use Rattle.std.proofs.lemmas.Int.{to_z-of_z}
use mir.Syntax.{w128}
use mir.Val.{to_z, of_z}
use Rattle.cap_deriv_choices.specs.Reading.{begins_with_digit, begins_with_sign, multiplier_text, positive_text}

pub own : IsNumeralModel (λ ds. all_ascii_digits ds ≡ true) (digits_value 10)
own = numerals_by_value _ tells_all_ascii_digits

pub both : (a b : Bool) → (a && b) ≡ true → (a ≡ true) × (b ≡ true)
both true b e = (refl, e)
both false b e = absurd (true≢false (sym e))

pub first_byte : (c : ℕ) (s : List ℕ) → begins_with_digit (c ∷ s) ≡ true → 49 ≤ c
first_byte c s b = leb-true 49 c (both (nat_le 49 c) (nat_le c 57) b).0

pub not_empty : (s : List ℕ) → begins_with_digit s ≡ true → 0 < length s
not_empty [] b = absurd (true≢false (sym b))
not_empty (c ∷ s) b = omega arith

pub positive_found : (most : ℕ) (s : List ℕ) → begins_with_digit s ≡ true → all_ascii_digits s ≡ true → digits_value 10 s ≤ most → positive_text most s ≡ Some (digits_value 10 s)
positive_found most s b d le = rw (b, d, le-leb (digits_value 10 s) most le) refl

positive_none : (most : ℕ) (s : List ℕ) → begins_with_digit s ≡ true → ((all_ascii_digits s ≡ true) → digits_value 10 s ≤ most → ⊥) → positive_text most s ≡ None
positive_none most s b never = go (begins_with_digit s && all_ascii_digits s && nat_le (digits_value 10 s) most) refl
  where
    go : (t : Bool) → (begins_with_digit s && all_ascii_digits s && nat_le (digits_value 10 s) most) ≡ t → cond t (Some (digits_value 10 s)) None ≡ None
    go false i = refl
    go true i =
        let p = both (begins_with_digit s && all_ascii_digits s) (nat_le (digits_value 10 s) most) i in
        absurd (never (both (begins_with_digit s) (all_ascii_digits s) p.0).1 (leb-true (digits_value 10 s) most p.1))

found : (E : Type 0) (c : ℕ) (s : List ℕ) (z : ℤ) → ParsesSigned {E = E} w128 10 (c ∷ s) (Ok z) → begins_with_sign (c ∷ s) ≡ true → Some z ≡ multiplier_text (c ∷ s)
found E c s z h b = go (c == 45) refl
  where
    go : (t : Bool) → (c == 45) ≡ t → Some z ≡ cond t (option_map (λ n. neg_ℤ (pos n)) (positive_text (2 ^ 127) s)) (option_map pos (positive_text (2 ^ 127 - 1) (c ∷ s)))
    go true i =
        let e = eqb-true c 45 i in
        let p = parse_signed_minus own {E = E} w128 (c ∷ s) (Ok z) h e in
        let first : begins_with_digit s ≡ true = rw i at b in
        rw (positive_found (2 ^ 127) s first p.0.0 p.0.2) (ap Some p.1)
    go false i =
        let first : begins_with_digit (c ∷ s) ≡ true = rw i at b in
        let low = first_byte c s first in
        let p = parse_signed_plain own {E = E} w128 (c ∷ s) (Ok z) h (λ e. omega arith) (λ e. omega arith) in
        let small : digits_value 10 (c ∷ s) ≤ 2 ^ 127 - 1 = omega (arith, p.0.2) in
        rw (positive_found (2 ^ 127 - 1) (c ∷ s) first p.0.0 small) (ap Some p.1)

refused : (E : Type 0) (c : ℕ) (s : List ℕ) (x : E) → ParsesSigned {E = E} w128 10 (c ∷ s) (Err x) → begins_with_sign (c ∷ s) ≡ true → None ≡ multiplier_text (c ∷ s)
refused E c s x h b = go (c == 45) refl
  where
    go : (t : Bool) → (c == 45) ≡ t → None ≡ cond t (option_map (λ n. neg_ℤ (pos n)) (positive_text (2 ^ 127) s)) (option_map pos (positive_text (2 ^ 127 - 1) (c ∷ s)))
    go true i =
        let e = eqb-true c 45 i in
        let p = parse_signed_minus own {E = E} w128 (c ∷ s) (Err x) h e in
        let first : begins_with_digit s ≡ true = rw i at b in
        rw (positive_none (2 ^ 127) s first (λ d le. p (d, not_empty s first, le))) refl
    go false i =
        let first : begins_with_digit (c ∷ s) ≡ true = rw i at b in
        let low = first_byte c s first in
        let p = parse_signed_plain own {E = E} w128 (c ∷ s) (Err x) h (λ e. omega arith) (λ e. omega arith) in
        rw (positive_none (2 ^ 127 - 1) (c ∷ s) first (λ d le. p (d, omega arith, omega arith))) refl

fits : (E : Type 0) (t : List ℕ) (z : ℤ) → ParsesSigned {E = E} w128 10 t (Ok z) → to_z w128 (of_z w128 z) ≡ z
fits E t z h = to_z-of_z w128 z (subst (λ (y : ℤ). FitsSigned w128 y) (sym h.1) h.0.1)

pub multiplier_ok : {E : Type 0} (r : Result ℤ E) (t : List ℕ) (z : ℤ) → ParsesSigned w128 10 t r → r ≡ Ok z → begins_with_sign t ≡ true → Some (to_z w128 (of_z w128 z)) ≡ multiplier_text t
multiplier_ok {E} r [] z h is b = absurd (true≢false (sym b))
multiplier_ok {E} r (c ∷ s) z h is b =
    let k = subst (λ (x : Result ℤ E). ParsesSigned w128 10 (c ∷ s) x) is h in
    ap Some (fits E (c ∷ s) z k) ∙ found E c s z k b

pub multiplier_err : {E : Type 0} (r : Result ℤ E) (t : List ℕ) (x : E) → ParsesSigned w128 10 t r → r ≡ Err x → begins_with_sign t ≡ true → None ≡ multiplier_text t
multiplier_err {E} r [] x h is b = absurd (true≢false (sym b))
multiplier_err {E} r (c ∷ s) x h is b = refused E c s x (subst (λ (y : Result ℤ E). ParsesSigned w128 10 (c ∷ s) y) is h) b
