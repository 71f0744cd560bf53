-- Each text has tokens or a refusal.
use Rattle.std.proofs.Common.{◌≡◌, ℕ, zero, suc, ◌<◌, ◌≤◌, ◌⊎◌, true, false, List, [], ◌∷◌, ◌++◌, length, take, drop, refl, sym, ap, subst, ◌∙◌, arith, inl, inr, ⊎_elim, length-take-le}
use Rattle.std.proofs.lemmas.Bool.{cases_Bool, cases_lt, cases_eq}
use Rattle.std.proofs.lemmas.List.{nil_from_length}
use Rattle.cap_syntax.specs.declared.token.Token.{Token}
use Rattle.cap_syntax.specs.declared.token.TokenKind.{TokenKind}
use Rattle.cap_syntax.specs.declared.token.TokenKind.TheVariants.{Name, Keyword, Number, Share, Wildcard, Symbol, End}
use Rattle.cap_syntax.specs.declared.token.TokenError.{TokenError}
use Rattle.cap_syntax.specs.declared.token.TokenError.TheVariants.{BadByte, LongLiteral}
use Rattle.cap_syntax.specs.Spelling.{spells, IsLongest, StartsNone, value_of, max_literal, begins_barred}
use Rattle.cap_syntax.specs.Place.{place_of, StandsAt}
use Rattle.cap_syntax.specs.Layout.{past_gap, IsTokenAt, Reads, end_of, AreTokensOf}
use Rattle.cap_syntax.specs.Refusal.{max_text, IsFirstBreak, IsFirstCause}
use Rattle.cap_syntax.proofs.Longest.{nothing_spelled}
use Rattle.cap_syntax.proofs.Places.{starts_at, stands_behind}
use Rattle.cap_syntax.proofs.Reading.{gap_stands, less_is_left, gap_is_shorter}
use Rattle.cap_syntax.proofs.Refusals.{stray_is_first, literal_is_first, glued_is_first, first_of_text}

-- ---- some longest token, or none

abbrev SpellsNone : List ℕ → Type 0
SpellsNone text = (k : TokenKind) → spells k text ≡ false

spells_none : (text : List ℕ) → spells Name text ≡ false → spells Keyword text ≡ false → spells Number text ≡ false → spells Share text ≡ false → spells Wildcard text ≡ false → spells Symbol text ≡ false → SpellsNone text
spells_none text a b c d e f Name = a
spells_none text a b c d e f Keyword = b
spells_none text a b c d e f Number = c
spells_none text a b c d e f Share = d
spells_none text a b c d e f Wildcard = e
spells_none text a b c d e f Symbol = f
spells_none text a b c d e f End = refl

abbrev SpellsSome : List ℕ → Type 0
SpellsSome text = (k : TokenKind) × (spells k text ≡ true)

some_or_none : (text : List ℕ) → SpellsSome text ⊎ SpellsNone text
some_or_none text =
    try Name (λ a. try Keyword (λ b. try Number (λ c. try Share (λ d. try Wildcard (λ e. try Symbol (λ f. inr (spells_none text a b c d e f)))))))
  where
    try : (k : TokenKind) → (spells k text ≡ false → SpellsSome text ⊎ SpellsNone text) → SpellsSome text ⊎ SpellsNone text
    try k others = ⊎_elim (λ yes. inl (k, yes)) others (cases_Bool (spells k text))

longest_or_none : (rest : List ℕ) (m : ℕ) → m ≤ length rest → ((k : TokenKind) (j : ℕ) → m < j → j ≤ length rest → spells k (take j rest) ≡ false) → StartsNone rest ⊎ ((k : TokenKind) × (n : ℕ) × IsLongest k n rest)
longest_or_none rest zero le none = inl none_at_all
  where
    none_at_all : StartsNone rest
    none_at_all k zero fits = nothing_spelled k
    none_at_all k (suc j) fits = none k (suc j) (omega arith) fits
longest_or_none rest (suc m) le none =
    ⊎_elim
    (λ some. inr (some.0, suc m, record { within = le; spelled = some.1; longest = none }))
    (λ fails. longest_or_none rest m (omega arith) (λ k j lt fits. ⊎_elim (λ same. rw same (fails k)) (λ other. none k j (omega (arith, other)) fits) (cases_eq j (suc m))))
    (some_or_none (take (suc m) rest))

-- ---- one step of reading

-- a token stands at this rest, or it can't be read
step : (bytes rest : List ℕ) → StandsAt bytes rest (place_of bytes rest) → 0 < length rest → ((t : Token) × IsTokenAt (place_of bytes rest) rest t) ⊎ ((e : TokenError) × IsFirstBreak bytes rest e)
step bytes rest stands left =
    ⊎_elim
    (λ none. inr (BadByte (place_of bytes rest), stray_is_first bytes rest (place_of bytes rest) stands left none))
    (λ some. token some.0 some.1 some.2)
    (longest_or_none rest (length rest) (omega arith) (λ k j lt fits. absurd (omega arith)))
  where
    token : (k : TokenKind) (n : ℕ) → IsLongest k n rest → ((t : Token) × IsTokenAt (place_of bytes rest) rest t) ⊎ ((e : TokenError) × IsFirstBreak bytes rest e)
    token k n longest =
        ⊎_elim
        (λ more. inr (LongLiteral (place_of bytes rest), literal_is_first bytes rest (place_of bytes rest) stands k n (take n rest) longest refl more))
        (λ small. ⊎_elim
        (λ barred. inr (BadByte (place_of bytes (drop n rest)), glued_is_first bytes rest (place_of bytes rest) stands k n (place_of bytes (drop n rest)) longest small barred (stands_behind bytes rest (place_of bytes rest) n stands longest.within)))
        (λ apart. inl (stands_there small apart))
        (cases_Bool (begins_barred k (drop n rest))))
        (cases_lt max_literal (value_of k (take n rest)))
      where
        stands_there : value_of k (take n rest) ≤ max_literal → begins_barred k (drop n rest) ≡ false → (t : Token) × IsTokenAt (place_of bytes rest) rest t
        stands_there small apart =
            let len : length (take n rest) ≡ n = length-take-le n rest longest.within in (
              record { kind = k; text = take n rest; value = value_of k (take n rest); place = place_of bytes rest },
              record {
                text = ap (λ (m : ℕ). take m rest) (sym len);
                longest = subst (λ (m : ℕ). IsLongest k m rest) (sym len) longest;
                apart = ap (λ (m : ℕ). begins_barred k (drop m rest)) len ∙ apart;
                value = refl;
                small = small;
                at = refl;
              },
            )

-- ---- all of the text

abbrev IsRead : List ℕ → List ℕ → Type 0
IsRead bytes from = (ts : List Token) × Reads bytes from ts []

abbrev IsBroken : List ℕ → List ℕ → Type 0
IsBroken bytes from = (ts : List Token) × (rest : List ℕ) × (e : TokenError) × Reads bytes from ts rest × IsFirstBreak bytes rest e

-- behind a token, as further on
behind : (bytes from : List ℕ) (t : Token) → IsTokenAt (place_of bytes (past_gap from)) (past_gap from) t
    → IsRead bytes (drop (length t.text) (past_gap from)) ⊎ IsBroken bytes (drop (length t.text) (past_gap from)) → IsRead bytes from ⊎ IsBroken bytes from
behind bytes from t token (inl read) = inl (t ∷ read.0, (token, read.1))
behind bytes from t token (inr broken) = inr (t ∷ broken.0, broken.1, broken.2, (token, broken.3), broken.4)

read_or_broken : (fuel : ℕ) (bytes from : List ℕ) → length (past_gap from) ≤ fuel → StandsAt bytes from (place_of bytes from) → IsRead bytes from ⊎ IsBroken bytes from
read_or_broken zero bytes from short stands = inl ([], nil_from_length (past_gap from) (omega arith))
read_or_broken (suc fuel) bytes from short stands =
    let rest = past_gap from in
    let there = gap_stands bytes from stands in
    ⊎_elim
    (λ none. inl ([], nil_from_length (past_gap from) none))
    (λ some.
    ⊎_elim
    (λ stood. behind bytes from stood.0 stood.1
    (read_or_broken fuel bytes (drop (length stood.0.text) (past_gap from))
    (omega (arith, less_is_left (past_gap from) (place_of bytes (past_gap from)) stood.0 stood.1))
    (stands_behind bytes rest (place_of bytes rest) (length stood.0.text) there stood.1.longest.within)))
    (λ broken. inr ([], past_gap from, broken.0, refl, broken.1))
    (step bytes rest there (omega (arith, some))))
    (cases_eq (length (past_gap from)) 0)

pub read_or_refused : (bytes : List ℕ) → length bytes ≤ max_text → ((all : List Token) × AreTokensOf bytes all) ⊎ ((e : TokenError) × IsFirstCause bytes e)
read_or_refused bytes fits =
    ⊎_elim
    (λ read. inl (read.0 ++ end_of bytes ∷ [], record { front = read.0; whole = refl; read = read.1 }))
    (λ broken. inr (broken.2, first_of_text bytes broken.0 broken.1 broken.2 fits broken.3 broken.4))
    (read_or_broken (length bytes) bytes bytes (gap_is_shorter bytes) (record { within = omega arith; rest_of = (starts_at bytes).rest_of; at = refl }))
