-- Which token is the longest at the front of a text.
use Rattle.std.proofs.Common.{◌≡◌, ℕ, zero, suc, ◌+◌, ◌<◌, ◌≤◌, Bool, true, false, cond, not, ◌&&◌, eqb, leb, List, [], ◌∷◌, ◌++◌, length, get_or, take, refl, sym, ap, subst, ◌∙◌, arith, ⊎_elim, length-take}
use Rattle.std.specs.Prelude.{codes, ◌==◌}
use Rattle.std.specs.Char.{is_ascii_alphabetic, is_ascii_digit}
use Rattle.std.specs.List.{list_all, prefix_len}
use Rattle.std.specs.Str.{bytes_eq}
use Rattle.std.proofs.lemmas.Bool.{false≢true, both_ways, and_parts, and_from, or_cases, or_left, or_right, not-true, cond-true, cond-false, cases_Bool, eqb-true, false_from_ne_true, leb-true, le-leb, and_cases, cases_eq}
use Rattle.std.proofs.lemmas.Bool.Decides.{nat_tests}
use Rattle.std.proofs.lemmas.List.Sums.{prefix_len-le-length}
use Rattle.std.proofs.lemmas.Slice.Eq.{bytes_eq-Decides}
use Rattle.cap_syntax.specs.declared.token.TokenKind.{TokenKind}
use Rattle.cap_syntax.specs.declared.token.TokenKind.TheVariants.{Name, Keyword, Number, Share, Wildcard, Symbol, End}
use Rattle.cap_syntax.specs.Spelling.{is_word_byte, is_word, is_number, keywords, symbols, is_one_of, spells, IsLongest, StartsNone}

-- what each word of a list passes, a text passes that is one of them
pub one_of_passes : (P : List ℕ → Bool) (words : List (List ℕ)) (text : List ℕ) → list_all P words ≡ true → is_one_of words text ≡ true → P text ≡ true
one_of_passes P [] text all one = absurd (false≢true one)
one_of_passes P (w ∷ ws) text all one =
    let both = and_parts (P w) (list_all P ws) all in
    ⊎_elim (λ same. subst (λ t. P t ≡ true) ((bytes_eq-Decides w text).0 same) both.0) (λ other. one_of_passes P ws text both.1 other) (or_cases (bytes_eq w text) (is_one_of ws text) one)

-- the front that passes is no shorter than any that does
pub front_passes : (p : ℕ → Bool) (xs : List ℕ) (m : ℕ) → m ≤ length xs → list_all p (take m xs) ≡ true → m ≤ prefix_len p xs
front_passes p [] m le all = omega arith
front_passes p (x ∷ xs) zero le all = omega arith
front_passes p (x ∷ xs) (suc m) le all =
    let both = and_parts (p x) (list_all p (take m xs)) all in
    rw (cond-true (p x) (1 + prefix_len p xs) 0 both.0) (omega (arith, front_passes p xs m (omega arith) both.1))

pub prefix_passes : (p : ℕ → Bool) (xs : List ℕ) → list_all p (take (prefix_len p xs) xs) ≡ true
prefix_passes p [] = refl
prefix_passes p (x ∷ xs) =
    ⊎_elim
    (λ yes. let n : cond (p x) (1 + prefix_len p xs) 0 ≡ suc (prefix_len p xs) = cond-true (p x) (1 + prefix_len p xs) 0 yes ∙ omega arith in rw n (and_from _ _ yes (prefix_passes p xs)))
    (λ fails. rw (cond-false (p x) (1 + prefix_len p xs) 0 fails) refl)
    (cases_Bool (p x))

-- ---- the first byte of a token

abbrev pub head_passes : (ℕ → Bool) → List ℕ → Bool
head_passes p [] = false
head_passes p (b ∷ bs) = p b

-- how tokens of a kind begin
abbrev pub starts : TokenKind → ℕ → Bool
starts Name b = is_ascii_alphabetic b
starts Keyword b = is_ascii_alphabetic b
starts Number b = is_ascii_digit b
starts Share b = is_ascii_digit b
starts Wildcard b = b == 95
starts Symbol b = not (is_word_byte b)
starts End b = false

pub keywords_are_words : (text : List ℕ) → is_one_of keywords text ≡ true → is_word text ≡ true
unfolding keywords
keywords_are_words text one = one_of_passes (λ t. is_word t) keywords text refl one

pub head_starts : (k : TokenKind) (b : ℕ) (bs : List ℕ) → spells k (b ∷ bs) ≡ true → starts k b ≡ true
unfolding symbols
head_starts Name b bs h = (and_parts _ _ (and_parts (is_word (b ∷ bs)) _ h).0).0
head_starts Keyword b bs h = (and_parts _ _ (keywords_are_words (b ∷ bs) h)).0
head_starts Number b bs h = (and_parts (is_ascii_digit b) _ h).0
head_starts Share b bs h = subst (λ x. is_ascii_digit x ≡ true) (eqb-true 49 b (and_parts (eqb 49 b) _ h).0) refl
head_starts Wildcard b bs h = subst (λ (x : ℕ). (x == 95) ≡ true) (eqb-true 95 b (and_parts (eqb 95 b) _ h).0) refl
head_starts Symbol b bs h = one_of_passes (head_passes (λ x. not (is_word_byte x))) symbols (b ∷ bs) refl h
head_starts End b bs h = absurd (false≢true h)

pub letter_starts : (b : ℕ) → is_ascii_alphabetic b ≡ true → (is_ascii_digit b ≡ false) × ((b == 95) ≡ false) × (is_word_byte b ≡ true)
letter_starts b h = (grind (arith, nat_tests), grind (arith, nat_tests), or_left _ _ (or_left _ _ h))

pub digit_starts : (b : ℕ) → is_ascii_digit b ≡ true → (is_ascii_alphabetic b ≡ false) × ((b == 95) ≡ false) × (is_word_byte b ≡ true)
digit_starts b h = (grind (arith, nat_tests), grind (arith, nat_tests), grind (arith, nat_tests))

pub nothing_spelled : (k : TokenKind) → spells k [] ≡ false
unfolding keywords symbols
nothing_spelled Name = refl
nothing_spelled Keyword = refl
nothing_spelled Number = refl
nothing_spelled Share = refl
nothing_spelled Wildcard = refl
nothing_spelled Symbol = refl
nothing_spelled End = refl

-- ---- names and keywords

-- what begins with a letter and spells a token is a word
letter_is_word : (k : TokenKind) (b : ℕ) (bs : List ℕ) → is_ascii_alphabetic b ≡ true → spells k (b ∷ bs) ≡ true → is_word (b ∷ bs) ≡ true
letter_is_word Name b bs letter h = (and_parts (is_word (b ∷ bs)) _ h).0
letter_is_word Keyword b bs letter h = keywords_are_words (b ∷ bs) h
letter_is_word Number b bs letter h = absurd (both_ways _ (letter_starts b letter).0 (head_starts Number b bs h))
letter_is_word Share b bs letter h = absurd (both_ways _ (letter_starts b letter).0 (head_starts Share b bs h))
letter_is_word Wildcard b bs letter h = absurd (both_ways _ (letter_starts b letter).1 (head_starts Wildcard b bs h))
letter_is_word Symbol b bs letter h = absurd (both_ways _ (not-true _ (head_starts Symbol b bs h)) (letter_starts b letter).2)
letter_is_word End b bs letter h = absurd (false≢true h)

word_is_no_longer : (b : ℕ) (bs : List ℕ) (k : TokenKind) (m : ℕ) → is_ascii_alphabetic b ≡ true → prefix_len is_word_byte (b ∷ bs) < m → m ≤ length (b ∷ bs) → spells k (take m (b ∷ bs)) ≡ true → ⊥
word_is_no_longer b bs k zero letter lt le h = omega arith
word_is_no_longer b bs k (suc m) letter lt le h =
    let word = letter_is_word k b (take m bs) letter h in
    let all : list_all is_word_byte (b ∷ take m bs) ≡ true = and_from _ _ (letter_starts b letter).2 (and_parts (is_ascii_alphabetic b) _ word).1 in
    omega (arith, front_passes is_word_byte (b ∷ bs) (suc m) le all)

pub word_is_longest : (kind : TokenKind) (rest : List ℕ) (n : ℕ) → is_ascii_alphabetic (get_or rest 0 0) ≡ true → n ≡ prefix_len is_word_byte rest → spells kind (take n rest) ≡ true → IsLongest kind n rest
word_is_longest kind [] n letter e spelled = absurd (false≢true letter)
word_is_longest kind (b ∷ bs) n letter e spelled = record {
  within = omega (arith, prefix_len-le-length is_word_byte (b ∷ bs));
  spelled = spelled;
  longest = λ k m lt le. false_from_ne_true _ (word_is_no_longer b bs k m letter (omega arith) le);
}

pub word_front : (rest : List ℕ) (n : ℕ) → is_ascii_alphabetic (get_or rest 0 0) ≡ true → n ≡ prefix_len is_word_byte rest → is_word (take n rest) ≡ true
word_front [] n letter e = absurd (false≢true letter)
word_front (b ∷ bs) n letter e =
    let more : n ≡ suc (prefix_len is_word_byte bs) = e ∙ cond-true (is_word_byte b) (1 + prefix_len is_word_byte bs) 0 (letter_starts b letter).2 ∙ omega arith in
    rw more (and_from _ _ letter (prefix_passes is_word_byte bs))

-- ---- numbers and the whole share

digits_are_no_longer : (b : ℕ) (bs : List ℕ) (k : TokenKind) (m : ℕ) → is_ascii_digit b ≡ true → bytes_eq (codes "1p") (take 2 (b ∷ bs)) ≡ false → prefix_len is_ascii_digit (b ∷ bs) < m → m ≤ length (b ∷ bs) → spells k (take m (b ∷ bs)) ≡ true → ⊥
digits_are_no_longer b bs k zero digit no_share lt le h = omega arith
digits_are_no_longer b bs Name (suc m) digit no_share lt le h = both_ways _ (digit_starts b digit).0 (head_starts Name b (take m bs) h)
digits_are_no_longer b bs Keyword (suc m) digit no_share lt le h = both_ways _ (digit_starts b digit).0 (head_starts Keyword b (take m bs) h)
digits_are_no_longer b bs Number (suc m) digit no_share lt le h = omega (arith, front_passes is_ascii_digit (b ∷ bs) (suc m) le h)
digits_are_no_longer b bs Share (suc m) digit no_share lt le h =
    let text : codes "1p" ≡ take (suc m) (b ∷ bs) = (bytes_eq-Decides (codes "1p") (take (suc m) (b ∷ bs))).0 h in
    let two : suc m ≡ 2 = omega (arith, ap length text, length-take (suc m) (b ∷ bs)) in
    both_ways _ no_share (subst (λ n. bytes_eq (codes "1p") (take n (b ∷ bs)) ≡ true) two h)
digits_are_no_longer b bs Wildcard (suc m) digit no_share lt le h = both_ways _ (digit_starts b digit).1 (head_starts Wildcard b (take m bs) h)
digits_are_no_longer b bs Symbol (suc m) digit no_share lt le h = both_ways _ (not-true _ (head_starts Symbol b (take m bs) h)) (digit_starts b digit).2
digits_are_no_longer b bs End (suc m) digit no_share lt le h = false≢true h

digits_front : (b : ℕ) (bs : List ℕ) (n : ℕ) → is_ascii_digit b ≡ true → n ≡ prefix_len is_ascii_digit (b ∷ bs) → is_number (take n (b ∷ bs)) ≡ true
digits_front b bs n digit e =
    let more : n ≡ suc (prefix_len is_ascii_digit bs) = e ∙ cond-true (is_ascii_digit b) (1 + prefix_len is_ascii_digit bs) 0 digit ∙ omega arith in
    rw more (and_from _ _ digit (prefix_passes is_ascii_digit bs))

pub digits_are_longest : (rest : List ℕ) (n : ℕ) → is_ascii_digit (get_or rest 0 0) ≡ true → bytes_eq (codes "1p") (take 2 rest) ≡ false → n ≡ prefix_len is_ascii_digit rest → IsLongest Number n rest
digits_are_longest [] n digit no_share e = absurd (false≢true digit)
digits_are_longest (b ∷ bs) n digit no_share e = record {
  within = omega (arith, prefix_len-le-length is_ascii_digit (b ∷ bs));
  spelled = digits_front b bs n digit e;
  longest = λ k m lt le. false_from_ne_true _ (digits_are_no_longer b bs k m digit no_share (omega arith) le);
}

share_is_no_longer : (bs : List ℕ) (k : TokenKind) (m : ℕ) → 2 < m → m ≤ length (49 ∷ 112 ∷ bs) → spells k (take m (49 ∷ 112 ∷ bs)) ≡ true → ⊥
share_is_no_longer bs k zero lt le h = omega arith
share_is_no_longer bs k (suc zero) lt le h = omega arith
share_is_no_longer bs k (suc (suc zero)) lt le h = omega arith
share_is_no_longer [] k (suc (suc (suc m))) lt le h = omega arith
share_is_no_longer (b ∷ bs) Name (suc (suc (suc m))) lt le h = false≢true h
share_is_no_longer (b ∷ bs) Keyword (suc (suc (suc m))) lt le h = false≢true (keywords_are_words _ h)
share_is_no_longer (b ∷ bs) Number (suc (suc (suc m))) lt le h = false≢true h
share_is_no_longer (b ∷ bs) Share (suc (suc (suc m))) lt le h = false≢true h
share_is_no_longer (b ∷ bs) Wildcard (suc (suc (suc m))) lt le h = false≢true h
share_is_no_longer (b ∷ bs) Symbol (suc (suc (suc m))) lt le h = false≢true (head_starts Symbol 49 (112 ∷ b ∷ take m bs) h)
share_is_no_longer (b ∷ bs) End (suc (suc (suc m))) lt le h = false≢true h

share_at : (rest bs : List ℕ) → rest ≡ 49 ∷ 112 ∷ bs → IsLongest Share 2 rest
share_at rest bs e = subst (IsLongest Share 2) (sym e) (record {
  within = omega arith;
  spelled = refl;
  longest = λ k m lt le. false_from_ne_true _ (share_is_no_longer bs k m lt le);
})

pub share_is_longest : (rest : List ℕ) → bytes_eq (codes "1p") (take 2 rest) ≡ true → IsLongest Share 2 rest
share_is_longest [] h = absurd (false≢true h)
share_is_longest (a ∷ []) h = absurd (both_ways _ (grind (arith, nat_tests)) h)
share_is_longest (a ∷ b ∷ bs) h =
    let same : codes "1p" ≡ a ∷ b ∷ [] = (bytes_eq-Decides (codes "1p") (a ∷ b ∷ [])).0 h in
    share_at (a ∷ b ∷ bs) bs (ap (λ t. t ++ bs) (sym same))

-- ---- the wildcard

wildcard_is_no_longer : (bs : List ℕ) (k : TokenKind) (m : ℕ) → 1 < m → m ≤ length (95 ∷ bs) → spells k (take m (95 ∷ bs)) ≡ true → ⊥
wildcard_is_no_longer bs k zero lt le h = omega arith
wildcard_is_no_longer bs k (suc zero) lt le h = omega arith
wildcard_is_no_longer [] k (suc (suc m)) lt le h = omega arith
wildcard_is_no_longer (b ∷ bs) Name (suc (suc m)) lt le h = false≢true h
wildcard_is_no_longer (b ∷ bs) Keyword (suc (suc m)) lt le h = false≢true (keywords_are_words _ h)
wildcard_is_no_longer (b ∷ bs) Number (suc (suc m)) lt le h = false≢true h
wildcard_is_no_longer (b ∷ bs) Share (suc (suc m)) lt le h = false≢true h
wildcard_is_no_longer (b ∷ bs) Wildcard (suc (suc m)) lt le h = false≢true h
wildcard_is_no_longer (b ∷ bs) Symbol (suc (suc m)) lt le h = false≢true (head_starts Symbol 95 (b ∷ take m bs) h)
wildcard_is_no_longer (b ∷ bs) End (suc (suc m)) lt le h = false≢true h

wildcard_at : (bs : List ℕ) → IsLongest Wildcard 1 (95 ∷ bs)
wildcard_at bs = record {
  within = omega arith;
  spelled = refl;
  longest = λ k m lt le. false_from_ne_true _ (wildcard_is_no_longer bs k m lt le);
}

pub wildcard_is_longest : (rest : List ℕ) → get_or rest 0 0 ≡ 95 → IsLongest Wildcard 1 rest
wildcard_is_longest [] e = absurd (omega arith)
wildcard_is_longest (b ∷ bs) e = subst (λ x. IsLongest Wildcard 1 (x ∷ bs)) (sym e) (wildcard_at bs)

-- ---- symbols

abbrev pub has_symbol : List ℕ → ℕ → Bool
has_symbol rest n = leb n (length rest) && is_one_of symbols (take n rest)

symbols_are_short : (text : List ℕ) → is_one_of symbols text ≡ true → length text ≤ 3
unfolding symbols
symbols_are_short text h = leb-true (length text) 3 (one_of_passes (λ t. leb (length t) 3) symbols text refl h)

has_none : (rest : List ℕ) (n : ℕ) → has_symbol rest n ≡ false → n ≤ length rest → is_one_of symbols (take n rest) ≡ false
has_none rest n none le =
    ⊎_elim (λ short. absurd (both_ways _ short (le-leb n (length rest) le))) (λ other. other) (and_cases (leb n (length rest)) (is_one_of symbols (take n rest)) none)

-- no symbol has more than three bytes; nor more than n, if none has the numbers of bytes between
pub none_past_three : (rest : List ℕ) (m : ℕ) → 3 < m → m ≤ length rest → is_one_of symbols (take m rest) ≡ false
none_past_three rest m lt le = false_from_ne_true _ (λ h. omega (arith, symbols_are_short (take m rest) h, length-take m rest))

none_past_one_less : (rest : List ℕ) (n m : ℕ) → has_symbol rest (suc n) ≡ false → (suc n < m → is_one_of symbols (take m rest) ≡ false) → n < m → m ≤ length rest → is_one_of symbols (take m rest) ≡ false
none_past_one_less rest n m none further lt le =
    ⊎_elim (λ same. rw same (has_none rest (suc n) none (omega arith))) (λ other. further (omega (arith, other))) (cases_eq m (suc n))

pub none_past_two : (rest : List ℕ) (m : ℕ) → has_symbol rest 3 ≡ false → 2 < m → m ≤ length rest → is_one_of symbols (take m rest) ≡ false
none_past_two rest m three lt le = none_past_one_less rest 2 m three (λ more. none_past_three rest m more le) lt le

pub none_past_one : (rest : List ℕ) (m : ℕ) → has_symbol rest 3 ≡ false → has_symbol rest 2 ≡ false → 1 < m → m ≤ length rest → is_one_of symbols (take m rest) ≡ false
none_past_one rest m three two lt le = none_past_one_less rest 1 m two (λ more. none_past_two rest m three more le) lt le

pub none_at_all : (rest : List ℕ) (m : ℕ) → has_symbol rest 3 ≡ false → has_symbol rest 2 ≡ false → has_symbol rest 1 ≡ false → 0 < m → m ≤ length rest → is_one_of symbols (take m rest) ≡ false
none_at_all rest m three two one lt le = none_past_one_less rest 0 m one (λ more. none_past_one rest m three two more le) lt le

-- what begins with no letter, digit or `_` and spells a token is a symbol
other_is_symbol : (k : TokenKind) (b : ℕ) (bs : List ℕ) → is_word_byte b ≡ false → spells k (b ∷ bs) ≡ true → is_one_of symbols (b ∷ bs) ≡ true
other_is_symbol Name b bs other h = absurd (both_ways _ other (letter_starts b (head_starts Name b bs h)).2)
other_is_symbol Keyword b bs other h = absurd (both_ways _ other (letter_starts b (head_starts Keyword b bs h)).2)
other_is_symbol Number b bs other h = absurd (both_ways _ other (digit_starts b (head_starts Number b bs h)).2)
other_is_symbol Share b bs other h = absurd (both_ways _ other (digit_starts b (head_starts Share b bs h)).2)
other_is_symbol Wildcard b bs other h = absurd (both_ways _ other (or_right _ _ (head_starts Wildcard b bs h)))
other_is_symbol Symbol b bs other h = h
other_is_symbol End b bs other h = absurd (false≢true h)

no_symbol_no_token : (rest : List ℕ) (m : ℕ) (k : TokenKind) → is_word_byte (get_or rest 0 0) ≡ false → m ≤ length rest → is_one_of symbols (take m rest) ≡ false → spells k (take m rest) ≡ false
no_symbol_no_token rest zero k other le none = nothing_spelled k
no_symbol_no_token [] (suc m) k other le none = absurd (omega arith)
no_symbol_no_token (b ∷ bs) (suc m) k other le none = false_from_ne_true _ (λ h. both_ways _ none (other_is_symbol k b (take m bs) other h))

pub symbol_is_longest : (rest : List ℕ) (n : ℕ) → is_word_byte (get_or rest 0 0) ≡ false → n ≤ length rest → is_one_of symbols (take n rest) ≡ true
    → ((m : ℕ) → n < m → m ≤ length rest → is_one_of symbols (take m rest) ≡ false) → IsLongest Symbol n rest
symbol_is_longest rest n other le spelled none = record {
  within = le;
  spelled = spelled;
  longest = λ k m lt le. no_symbol_no_token rest m k other le (none m lt le);
}

pub starts_none : (rest : List ℕ) → is_word_byte (get_or rest 0 0) ≡ false → ((m : ℕ) → 0 < m → m ≤ length rest → is_one_of symbols (take m rest) ≡ false) → StartsNone rest
starts_none rest other none k zero le = nothing_spelled k
starts_none rest other none k (suc m) le = no_symbol_no_token rest (suc m) k other le (none (suc m) (omega arith) le)

pub nil_starts_none : (rest : List ℕ) → length rest ≡ 0 → StartsNone rest
nil_starts_none rest e k zero le = nothing_spelled k
nil_starts_none rest e k (suc m) le = absurd (omega arith)
