-- The decimal text of a number past 64 bits, and the number of a text.
use Rattle.std.proofs.Common.{◌≡◌, ℕ, zero, suc, ◌+◌, ◌*◌, ◌-◌, ◌/◌, ◌%◌, ◌^◌, ◌<◌, ◌≤◌, ◌&&◌, Bool, cond, true, false, true≢false, List, [], ◌∷◌, ◌++◌, length, get_or, Some, None, option_map, refl, sym, ap, subst, ◌∙◌, arith, append_assoc, append-nil, length-append}
use Rattle.std.specs.Prelude.{◌==◌, nat_le, ℤ, pos, negsuc, neg_ℤ}
use Rattle.std.proofs.Math.ListN.{get_or-append}
use Rattle.std.specs.Char.{digit_value}
use Rattle.std.specs.Fmt.{decimal, signed_decimal}
use Rattle.std.specs.Str.{all_ascii_digits}
use Rattle.std.specs.Str.Parse.{AllDigits, digits_value, digits_value_after}
use Rattle.std.proofs.lemmas.Fmt.{decimal_is_IsNumeral_wide, decimal_digit, decimal_step_wide, decimal_by_steps_wide}
use Rattle.std.proofs.lemmas.Str.Parse.{digit_from_value}
use Rattle.std.proofs.lemmas.Str.{digit_value_digit}
use Rattle.std.proofs.lemmas.Bool.{le-leb, leb-true, eqb-true, ne_eqb}
use Rattle.cap_deriv_write.specs.Bounds.{IsMultiplier}
use Rattle.cap_deriv_choices.specs.Reading.{begins_with_digit, positive_text, multiplier_text}
use Rattle.cap_deriv_choices.proofs.Numerals.{own, both, first_byte, positive_found}
use Rattle.cap_deriv_write.proofs.Options.{some_same, map_of}

first_wide : (n : ℕ) → 0 < n → n < 10 ^ 64 → 48 < get_or (decimal n) 0 0
first_wide n some small = (decimal_by_steps_wide (λ m ds. (0 < length ds) × (0 < m → 48 < get_or ds 0 0)) (λ m l. (omega arith, λ a. omega arith))
    (λ m ds l h. (omega (arith, length-append ds ((48 + m % 10) ∷ [])), λ a. omega (arith, get_or-append ds ((48 + m % 10) ∷ []) 0 0 h.0, h.1 (omega arith)))) n small).1 some

le_value_after : (n : ℕ) (ds : List ℕ) → n ≤ digits_value_after 10 n ds
le_value_after n [] = omega arith
le_value_after n (c ∷ cs) = omega (arith, le_value_after (n * 10 + digit_value c) cs)

decimal_value_after : (n : ℕ) (ds : List ℕ) → 0 < n → AllDigits 10 ds → digits_value_after 10 n ds < 10 ^ 64 → decimal (digits_value_after 10 n ds) ≡ decimal n ++ ds
decimal_value_after n [] some d small = sym (append-nil (decimal n))
decimal_value_after n (c ∷ cs) some d small =
    let m : ℕ = n * 10 + digit_value c in
    let k = digit_value_digit c (digit_from_value c d.0) in
    let front : m / 10 ≡ n = omega (arith, d.0) in
    let end : 48 + m % 10 ≡ c = omega (arith, d.0) in
    decimal_value_after m cs (omega arith) d.1 small
    ∙ ap (λ x. x ++ cs) (decimal_step_wide m (omega arith) (omega (arith, le_value_after m cs)) ∙ (λ i. decimal (front i) ++ (end i ∷ [])))
    ∙ append_assoc (decimal n) (c ∷ []) cs

-- digits that begin with no 0 are the decimal text of their value
pub decimal_of_digits : (ds : List ℕ) → begins_with_digit ds ≡ true → all_ascii_digits ds ≡ true → digits_value 10 ds < 10 ^ 64 → decimal (digits_value 10 ds) ≡ ds
decimal_of_digits [] b p small = absurd (true≢false (sym b))
decimal_of_digits (c ∷ cs) b p small =
    let d = own.to (c ∷ cs) p in
    let low = first_byte c cs b in
    let k = digit_value_digit c (digit_from_value c d.0) in
    let is : 48 + (0 * 10 + digit_value c) ≡ c = omega arith in
    decimal_value_after (0 * 10 + digit_value c) cs (omega arith) d.1 small
    ∙ ap (λ x. x ++ cs) (decimal_digit (0 * 10 + digit_value c) (omega (arith, d.0)) ∙ ap (λ x. x ∷ []) is)

begins_from : (ds : List ℕ) → AllDigits 10 ds → 48 < get_or ds 0 0 → begins_with_digit ds ≡ true
begins_from [] d h = absurd (omega arith)
begins_from (c ∷ cs) d h = let r = digit_from_value c d.0 in rw (le-leb 49 c (omega arith), le-leb c 57 (omega arith)) refl

-- and back
pub positive_decimal : (most n : ℕ) → 0 < n → n ≤ most → most < 10 ^ 64 → positive_text most (decimal n) ≡ Some n
positive_decimal most n some le small =
    let p = decimal_is_IsNumeral_wide n (omega arith) in
    let d = p.0.1 in
    positive_found most (decimal n) (begins_from (decimal n) d (first_wide n some (omega arith))) (own.from (decimal n) d) (omega (arith, p.1)) ∙ ap Some p.1

plain_sign : (cs : List ℕ) (n : ℕ) → 48 < get_or cs 0 0 → positive_text (2 ^ 127 - 1) cs ≡ Some n → multiplier_text cs ≡ Some (pos n)
plain_sign [] n h e = absurd (omega arith)
plain_sign (c ∷ cs) n h e = rw (ne_eqb c 45 (λ x. omega arith), e) refl

pub multiplier_decimal : (z : ℤ) → IsMultiplier z → multiplier_text (signed_decimal z) ≡ Some z
multiplier_decimal (pos zero) m = absurd (m.1 refl)
multiplier_decimal (pos (suc n)) m =
    let fits : suc n < 2 ^ 127 = m.0.sfits in
    plain_sign (decimal (suc n)) (suc n) (first_wide (suc n) (omega arith) (omega arith)) (positive_decimal (2 ^ 127 - 1) (suc n) (omega arith) (omega arith) (omega arith))
multiplier_decimal (negsuc n) m =
    let fits : n < 2 ^ 127 = m.0.sfits in
    ap (option_map (λ k. neg_ℤ (pos k))) (positive_decimal (2 ^ 127) (suc n) (omega arith) (omega arith) (omega arith))

-- their value is not 0
some_digits : (s : List ℕ) → begins_with_digit s ≡ true → all_ascii_digits s ≡ true → 0 < digits_value 10 s
some_digits [] b p = absurd (true≢false (sym b))
some_digits (c ∷ cs) b p =
    let d = own.to (c ∷ cs) p in
    let low = first_byte c cs b in
    let k = digit_value_digit c (digit_from_value c d.0) in
    omega (arith, le_value_after (0 * 10 + digit_value c) cs)

-- what was read as a positive number
pub positive_sound : (most : ℕ) (s : List ℕ) (n : ℕ) → most < 10 ^ 64 → positive_text most s ≡ Some n → (s ≡ decimal n) × (0 < n) × (n ≤ most)
positive_sound most s n small e = go (begins_with_digit s && all_ascii_digits s && nat_le (digits_value 10 s) most) refl e
  where
    go : (t : Bool) → (begins_with_digit s && all_ascii_digits s && nat_le (digits_value 10 s) most) ≡ t → cond t (Some (digits_value 10 s)) None ≡ Some n → (s ≡ decimal n) × (0 < n) × (n ≤ most)
    go false i e = absurd (cc)
    go true i e =
        let p = both (begins_with_digit s && all_ascii_digits s) (nat_le (digits_value 10 s) most) i in
        let q = both (begins_with_digit s) (all_ascii_digits s) p.0 in
        let le = leb-true (digits_value 10 s) most p.1 in
        let same : digits_value 10 s ≡ n = some_same _ _ e in
        let text : decimal (digits_value 10 s) ≡ s = decimal_of_digits s q.0 q.1 (omega arith) in
        (sym text ∙ ap decimal same, omega (arith, some_digits s q.0 q.1), omega arith)

signed_sound : (n : ℕ) → 0 < n → n ≤ 2 ^ 127 → (45 ∷ decimal n ≡ signed_decimal (neg_ℤ (pos n))) × IsMultiplier (neg_ℤ (pos n))
signed_sound zero some le = absurd (omega arith)
signed_sound (suc n) some le = (refl, (record { sfits = omega arith }, λ e. cc))

plain_sound : (n : ℕ) → 0 < n → n ≤ 2 ^ 127 - 1 → IsMultiplier (pos n)
plain_sound n some le = (record { sfits = omega arith }, λ e. let z : n ≡ 0 = cc in omega arith)

pub multiplier_sound : (s : List ℕ) (z : ℤ) → multiplier_text s ≡ Some z → (s ≡ signed_decimal z) × IsMultiplier z
multiplier_sound [] z e = absurd (cc)
multiplier_sound (c ∷ s) z e = go (c == 45) refl e
  where
    go : (t : Bool) → (c == 45) ≡ t → cond t (option_map (λ n. neg_ℤ (pos n)) (positive_text (2 ^ 127) s)) (option_map pos (positive_text (2 ^ 127 - 1) (c ∷ s))) ≡ Some z → (c ∷ s ≡ signed_decimal z) × IsMultiplier z
    go true i e =
        let m = map_of (λ n. neg_ℤ (pos n)) (positive_text (2 ^ 127) s) z e in
        let p = positive_sound (2 ^ 127) s m.0 (omega arith) m.1 in
        let q = signed_sound m.0 p.1 p.2 in
        (ap (λ x. x ∷ s) (eqb-true c 45 i) ∙ ap (λ x. 45 ∷ x) p.0 ∙ q.0 ∙ ap signed_decimal m.2, subst IsMultiplier m.2 q.1)
    go false i e =
        let m = map_of pos (positive_text (2 ^ 127 - 1) (c ∷ s)) z e in
        let p = positive_sound (2 ^ 127 - 1) (c ∷ s) m.0 (omega arith) m.1 in
        (p.0 ∙ ap signed_decimal m.2, subst IsMultiplier m.2 (plain_sound m.0 p.1 p.2))
