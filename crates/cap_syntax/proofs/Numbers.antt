-- The number that digits spell grows with each of them.
use Rattle.std.proofs.Common.{◌≡◌, ℕ, ◌+◌, ◌-◌, ◌*◌, ◌/◌, ◌<◌, ◌≤◌, List, [], ◌∷◌, ◌++◌, length, get_or, take, drop, sym, ap, subst, ◌∙◌, arith}
use Rattle.std.specs.List.{fold}
use Rattle.std.proofs.lemmas.List.{take_more, take-append-drop}
use Rattle.std.proofs.lemmas.List.Sums.{fold-append}
use Rattle.cap_syntax.specs.Spelling.{number_of, max_literal}

abbrev with_digit : ℕ → ℕ → ℕ
with_digit n digit = 10 * n + (digit - 48)

grows : (n : ℕ) (digits : List ℕ) → n ≤ fold with_digit n digits
grows n [] = omega arith
grows n (d ∷ digits) = omega (arith, grows (with_digit n d) digits)

number_of-append : (xs ys : List ℕ) → number_of (xs ++ ys) ≡ fold with_digit (number_of xs) ys
number_of-append xs ys = fold-append with_digit 0 xs ys

front_is_less : (digits : List ℕ) (i : ℕ) → number_of (take i digits) ≤ number_of digits
front_is_less digits i =
    subst (λ ds. number_of (take i digits) ≤ number_of ds) (take-append-drop i digits)
    (subst (λ n. number_of (take i digits) ≤ n) (sym (number_of-append (take i digits) (drop i digits))) (grows (number_of (take i digits)) (drop i digits)))

pub number_of_more : (digits : List ℕ) (i : ℕ) → i < length digits → number_of (take (i + 1) digits) ≡ 10 * number_of (take i digits) + (get_or digits i 0 - 48)
number_of_more digits i lt = ap number_of (take_more digits i 0 lt) ∙ number_of-append (take i digits) (get_or digits i 0 ∷ [])

-- one more digit passes the limit, so all of them do
pub passes_limit : (digits : List ℕ) (i n digit : ℕ) → i < length digits → n ≡ number_of (take i digits) → digit ≡ get_or digits i 0 - 48 → (max_literal - digit) / 10 < n → max_literal < number_of digits
passes_limit digits i n digit lt so_far is passed =
    omega (arith, number_of_more digits i lt, front_is_less digits (i + 1))
