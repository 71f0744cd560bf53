-- A number's text without sign, fraction and exponent.
use Rattle.std.proofs.Common.{◌≡◌, ℕ, ◌<◌, ◌^◌, ◌==◌, Bool, true, false, cond, ◌&&◌, nat_lt, length, Option, Some, None, option_and_then, refl, sym, ap, ◌∙◌, lt-ltb}
use Rattle.std.specs.Prelude.{SomeIff, nat_le, not}
use Rattle.std.specs.Float.{binary64, float_is_finite}
use Rattle.std.proofs.lemmas.Bool.{and_parts, not-true, eqb-true, ltb-true}
use Rattle.fast_float.specs.Text.{Parts, digits_of, nearest, with_sign, IsInteger}
use Rattle.serde_json.specs.Data.{unsigned, negative, float}
use Rattle.serde_json.specs.Find.{as_u64}
use Rattle.serde_json.specs.Read.{is_integer, float_of, number_from}

float_none : (sign : Bool) (p : Parts) → option_and_then as_u64 (float_of sign p) ≡ None
float_none sign p = at (float_is_finite (nearest binary64 sign p))
  where
    at : (t : Bool) → option_and_then as_u64 (cond t (Some (float (nearest binary64 sign p))) None) ≡ None
    at true = refl
    at false = refl

pub minus_none : (p : Parts) → option_and_then as_u64 (number_from true p) ≡ None
minus_none p = at (is_integer p && nat_lt 0 (digits_of p) && nat_le (digits_of p) (2 ^ 63))
  where
    at : (t : Bool) → option_and_then as_u64 (cond t (Some (negative (with_sign true (digits_of p)))) (float_of true p)) ≡ None
    at true = refl
    at false = float_none true p

integer_test : (p : Parts) → is_integer p ≡ true → IsInteger p
integer_test p e =
    let a = and_parts (nat_lt 0 (length p.whole) && not p.point) (length p.exponent == 0) e in
    let b = and_parts (nat_lt 0 (length p.whole)) (not p.point) a.0 in
    (ltb-true _ _ b.0, not-true p.point b.1, eqb-true _ _ a.1)

tested_integer : (p : Parts) → IsInteger p → is_integer p ≡ true
tested_integer p h = rw (lt-ltb _ _ h.0, h.1, h.2)

pub plain_is : (p : Parts) (r : Option ℕ) → SomeIff r (IsInteger p × (digits_of p < 2 ^ 64)) (digits_of p) → r ≡ option_and_then as_u64 (number_from false p)
plain_is p (Some n) h =
    let test : (is_integer p && nat_lt (digits_of p) (2 ^ 64)) ≡ true = rw (tested_integer p h.0.0, lt-ltb _ _ h.0.1) in
    ap Some h.1 ∙ sym (ap (λ (t : Bool). option_and_then as_u64 (cond t (Some (unsigned (digits_of p))) (float_of false p))) test)
plain_is p None h = at (is_integer p && nat_lt (digits_of p) (2 ^ 64)) refl
  where
    at : (t : Bool) → (is_integer p && nat_lt (digits_of p) (2 ^ 64)) ≡ t → None ≡ option_and_then as_u64 (cond t (Some (unsigned (digits_of p))) (float_of false p))
    at true e =
        let both = and_parts (is_integer p) (nat_lt (digits_of p) (2 ^ 64)) e in
        absurd (h (integer_test p both.0, ltb-true _ _ both.1))
    at false e = sym (float_none false p)
