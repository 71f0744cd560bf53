-- `parse` reads the numbers of the definition.
use Rattle.std.proofs.Common.{◌≡◌, ◌<◌, ◌≤◌, ◌^◌, ◌&&◌, ℕ, Bool, cond, true, false, refl, sym, ap, subst, arith, List, [], ◌∷◌, length, get_or, Some, None, Result, Ok, Err, true≢false}
use Rattle.std.specs.Prelude.{nat_le}
use Rattle.std.specs.Str.{all_ascii_digits}
use Rattle.std.specs.Str.Parse.{ParsesUnsigned, digits_value}
use Rattle.std.proofs.lemmas.Bool.{le-leb, leb-true}
use Rattle.std.proofs.lemmas.Str.Parse.{IsNumeralModel, numerals_by_value, parse_plain, tells_all_ascii_digits}
use Rattle.clap.proofs.WalkLemmas.{both}
use Rattle.cap_top_words.specs.Number.{begins_number, number_within}

pub own : IsNumeralModel (λ ds. all_ascii_digits ds ≡ true) (digits_value 10)
own = numerals_by_value _ tells_all_ascii_digits

-- a text that begins a number has no sign
pub unsigned : (text : List ℕ) → begins_number text ≡ true → (48 ≤ get_or text 0 0) × (0 < length text)
unsigned [] b = absurd (true≢false (sym b))
unsigned (d ∷ []) b = (leb-true 48 d (both (nat_le 48 d) (nat_le d 57) b).0, omega arith)
unsigned (d ∷ e ∷ ds) b = let low = leb-true 49 d (both (nat_le 49 d) (nat_le d 57) b).0 in (omega arith, omega arith)

-- the number that was read, within the bounds
pub read_is : {E : Type 0} (r : Result ℕ E) (text : List ℕ) (least most n : ℕ) → ParsesUnsigned 64 10 text r → r ≡ Ok n → begins_number text ≡ true
    → least ≤ n → n ≤ most → Some n ≡ number_within least most text
read_is {E} r text least most n parsed is b low high =
    let first = unsigned text b in
    let p = parse_plain own {E = E} 64 text (Ok n) (subst (λ (x : Result ℕ E). ParsesUnsigned 64 10 text x) is parsed) (λ e. omega arith) in
    let above : least ≤ digits_value 10 text = omega (arith, p.1) in
    let below : digits_value 10 text ≤ most = omega (arith, p.1) in
    rw (b, p.0.0, le-leb least (digits_value 10 text) above, le-leb (digits_value 10 text) most below) (ap Some p.1)

-- no number was read
pub refused_is : {E : Type 0} (r : Result ℕ E) (text : List ℕ) (least most : ℕ) (e : E) → ParsesUnsigned 64 10 text r → r ≡ Err e → most < 2 ^ 64
    → begins_number text ≡ true → None ≡ number_within least most text
refused_is {E} r text least most e parsed is small b = go (begins_number text && all_ascii_digits text && nat_le least (digits_value 10 text) && nat_le (digits_value 10 text) most) refl
  where
    go : (t : Bool) → (begins_number text && all_ascii_digits text && nat_le least (digits_value 10 text) && nat_le (digits_value 10 text) most) ≡ t
        → None ≡ cond t (Some (digits_value 10 text)) None
    go false i = refl
    go true i =
        let first = unsigned text b in
        let high = both (begins_number text && all_ascii_digits text && nat_le least (digits_value 10 text)) (nat_le (digits_value 10 text) most) i in
        let low = both (begins_number text && all_ascii_digits text) (nat_le least (digits_value 10 text)) high.0 in
        let digits = (both (begins_number text) (all_ascii_digits text) low.0).1 in
        let le = leb-true (digits_value 10 text) most high.1 in
        absurd (parse_plain own {E = E} 64 text (Err e) (subst (λ (x : Result ℕ E). ParsesUnsigned 64 10 text x) is parsed) (λ j. omega arith) (digits, omega arith, omega arith))
