-- Tokens that are printed with blanks between them are read again.
use Rattle.std.proofs.Common.{◌≡◌, ℕ, suc, ◌+◌, ◌-◌, ◌<◌, Bool, true, false, not, eqb, List, [], ◌∷◌, ◌++◌, length, take, drop, map, refl, sym, ap, subst, ◌∙◌, arith, length-append}
use Rattle.std.specs.Prelude.{codes, All}
use Rattle.std.specs.Char.{is_ascii_alphabetic, is_ascii_digit}
use Rattle.std.specs.List.{list_all}
use Rattle.std.proofs.Math.Seq.{take-append-add}
use Rattle.std.proofs.lemmas.Bool.{false≢true, both_ways, and_parts, and_from, and_left, not-true, false_from_ne_true}
use Rattle.std.proofs.lemmas.Bool.Decides.{nat_tests}
use Rattle.std.proofs.lemmas.List.{take_at, drop_at, same_from_push}
use Rattle.std.proofs.lemmas.List.Elements.{All-nil, All-cons, All-head, All-tail}
use Rattle.std.proofs.lemmas.List.Folds.{list_all-append}
use Rattle.std.proofs.lemmas.Slice.Eq.{bytes_eq-Decides}
use Rattle.cap_syntax.specs.declared.place.Place.{Place}
use Rattle.cap_syntax.specs.declared.token.Token.{Token}
use Rattle.cap_syntax.specs.declared.token.TokenKind.{TokenKind}
use Rattle.cap_syntax.specs.declared.token.TokenKind.TheVariants.{Name, Keyword, Number, Share, Wildcard, Symbol, End}
use Rattle.cap_syntax.specs.Spelling.{is_word_byte, is_word, keywords, symbols, spells, IsLongest, is_barred, begins_barred}
use Rattle.cap_syntax.specs.Place.{place_of}
use Rattle.cap_syntax.specs.Layout.{is_blank, begins_comment, past_gap, past_comment, IsTokenAt, Reads, end_of, AreTokensOf}
use Rattle.cap_syntax.specs.Printing.{IsSpelled, tokens_in, printed, AreSpaced, unplaced, ReadsAs}
use Rattle.cap_syntax.proofs.Longest.{one_of_passes, head_passes, head_starts, nothing_spelled}
use Rattle.cap_syntax.proofs.Gaps.{gap_blank, gap_stops}

-- ---- no token has a blank in it, nor begins a comment

is_dark : ℕ → Bool
is_dark b = not (is_blank b)

all_weaker : (p q : ℕ → Bool) → ((b : ℕ) → p b ≡ true → q b ≡ true) → (bs : List ℕ) → list_all p bs ≡ true → list_all q bs ≡ true
all_weaker p q weaker [] all = refl
all_weaker p q weaker (b ∷ bs) all =
    let both = and_parts (p b) (list_all p bs) all in
    and_from _ _ (weaker b both.0) (all_weaker p q weaker bs both.1)

letter_is_dark : (b : ℕ) → is_ascii_alphabetic b ≡ true → is_dark b ≡ true
unfolding is_dark
letter_is_dark b h = grind (arith, nat_tests)

digit_is_dark : (b : ℕ) → is_ascii_digit b ≡ true → is_dark b ≡ true
unfolding is_dark
digit_is_dark b h = grind (arith, nat_tests)

word_byte_is_dark : (b : ℕ) → is_word_byte b ≡ true → is_dark b ≡ true
unfolding is_dark
word_byte_is_dark b h = grind (arith, nat_tests)

word_is_dark : (text : List ℕ) → is_word text ≡ true → list_all is_dark text ≡ true
word_is_dark [] h = refl
word_is_dark (b ∷ bs) h =
    let both = and_parts (is_ascii_alphabetic b) (list_all is_word_byte bs) h in
    and_from _ _ (letter_is_dark b both.0) (all_weaker is_word_byte is_dark word_byte_is_dark bs both.1)

token_is_dark : (k : TokenKind) (text : List ℕ) → spells k text ≡ true → list_all is_dark text ≡ true
unfolding is_dark keywords symbols
token_is_dark Name text h = word_is_dark text (and_parts (is_word text) _ h).0
token_is_dark Keyword text h = one_of_passes (λ t. list_all is_dark t) keywords text refl h
token_is_dark Number [] h = refl
token_is_dark Number (b ∷ bs) h = all_weaker is_ascii_digit is_dark digit_is_dark (b ∷ bs) h
token_is_dark Share text h = subst (λ t. list_all is_dark t ≡ true) ((bytes_eq-Decides (codes "1p") text).0 h) refl
token_is_dark Wildcard text h = subst (λ t. list_all is_dark t ≡ true) ((bytes_eq-Decides (codes "_") text).0 h) refl
token_is_dark Symbol text h = one_of_passes (λ t. list_all is_dark t) symbols text refl h
token_is_dark End text h = absurd (false≢true h)

no_slash : (k : TokenKind) (b : ℕ) (bs : List ℕ) → spells k (b ∷ bs) ≡ true → eqb 47 b ≡ false
unfolding symbols
no_slash Name b bs h = let letter = head_starts Name b bs h in grind (arith, nat_tests)
no_slash Keyword b bs h = let letter = head_starts Keyword b bs h in grind (arith, nat_tests)
no_slash Number b bs h = let digit = head_starts Number b bs h in grind (arith, nat_tests)
no_slash Share b bs h = let digit = head_starts Share b bs h in grind (arith, nat_tests)
no_slash Wildcard b bs h = let other = head_starts Wildcard b bs h in grind (arith, nat_tests)
no_slash Symbol b bs h = not-true _ (one_of_passes (head_passes (λ x. not (eqb 47 x))) symbols (b ∷ bs) refl h)
no_slash End b bs h = absurd (false≢true h)

opens_no_comment : (b : ℕ) (bs : List ℕ) → eqb 47 b ≡ false → begins_comment (b ∷ bs) ≡ false
opens_no_comment b bs other = and_left _ _ other

-- ---- gaps

pub no_gap : (k : TokenKind) (text after : List ℕ) → spells k text ≡ true → past_gap (text ++ after) ≡ text ++ after
unfolding is_dark
no_gap k [] after h = absurd (both_ways _ (nothing_spelled k) h)
no_gap k (b ∷ bs) after h =
    gap_stops b (bs ++ after) (opens_no_comment b (bs ++ after) (no_slash k b bs h)) (not-true _ (and_parts _ _ (token_is_dark k (b ∷ bs) h)).0)

blank_is_no_slash : (b : ℕ) → is_blank b ≡ true → eqb 47 b ≡ false
blank_is_no_slash b blank = grind (arith, nat_tests)

pub skips_blanks : (gap rest : List ℕ) → list_all is_blank gap ≡ true → past_gap (gap ++ rest) ≡ past_gap rest
skips_blanks [] rest blanks = refl
skips_blanks (b ∷ gap) rest blanks =
    let both = and_parts (is_blank b) (list_all is_blank gap) blanks in
    gap_blank b (gap ++ rest) (opens_no_comment b (gap ++ rest) (blank_is_no_slash b both.0)) both.0 ∙ skips_blanks gap rest both.1

-- ---- a token before a blank

abbrev pub BeginsBlank : List ℕ → Type 0
BeginsBlank [] = Unit {0}
BeginsBlank (b ∷ bs) = is_blank b ≡ true

no_longer : (k l : TokenKind) (text after : List ℕ) (n : ℕ) → BeginsBlank after → n < length after → spells l (text ++ take (suc n) after) ≡ true → ⊥
unfolding is_dark
no_longer k l text [] n blank lt h = omega arith
no_longer k l text (b ∷ after) n blank lt h =
    let dark = sym (list_all-append is_dark text (b ∷ take n after)) ∙ token_is_dark l (text ++ b ∷ take n after) h in
    let tail = (and_parts (list_all is_dark text) (list_all is_dark (b ∷ take n after)) dark).1 in
    both_ways _ (not-true _ (and_parts (is_dark b) _ tail).0) blank

longest_before_blank : (k : TokenKind) (text after : List ℕ) → spells k text ≡ true → BeginsBlank after → IsLongest k (length text) (text ++ after)
longest_before_blank k text after h blank = record {
  within = omega (arith, length-append text after);
  spelled = rw (take_at text after (length text) refl) h;
  longest = λ l m lt le. false_from_ne_true _ (λ more.
      let further : m ≡ length text + suc (m - length text - 1) = omega arith in
      let cut : take m (text ++ after) ≡ text ++ take (suc (m - length text - 1)) after = ap (λ (n : ℕ). take n (text ++ after)) further ∙ take-append-add text after (suc (m - length text - 1)) in
      no_longer k l text after (m - length text - 1) blank (omega (arith, length-append text after)) (subst (λ (t : List ℕ). spells l t ≡ true) cut more));
}

blank_is_not_barred : (k : TokenKind) (b : ℕ) → is_blank b ≡ true → is_barred k b ≡ false
blank_is_not_barred Number b blank = grind (arith, nat_tests)
blank_is_not_barred Share b blank = grind (arith, nat_tests)
blank_is_not_barred Wildcard b blank = grind (arith, nat_tests)
blank_is_not_barred Name b blank = refl
blank_is_not_barred Keyword b blank = refl
blank_is_not_barred Symbol b blank = refl
blank_is_not_barred End b blank = refl

not_barred : (k : TokenKind) (after : List ℕ) → BeginsBlank after → begins_barred k after ≡ false
not_barred k [] blank = refl
not_barred k (b ∷ after) blank = blank_is_not_barred k b blank

token_before_blank : (place : Place) (t : Token) (after : List ℕ) → IsSpelled t → BeginsBlank after → IsTokenAt place (t.text ++ after) (record t { place = place })
token_before_blank place t after spelled blank = record {
  text = sym (take_at t.text after (length t.text) refl);
  longest = longest_before_blank t.kind t.text after spelled.spelled blank;
  apart = rw (drop_at t.text after (length t.text) refl) (not_barred t.kind after blank);
  value = spelled.value;
  small = spelled.small;
  at = refl;
}

-- ---- whole texts

-- the tokens of what is printed, with their places in the whole text
abbrev placed : List ℕ → List (Token × List ℕ) → List Token
placed bytes [] = []
placed bytes (piece ∷ pieces) = record piece.0 { place = place_of bytes (printed (piece ∷ pieces)) } ∷ placed bytes pieces

placed_same : (bytes : List ℕ) (pieces : List (Token × List ℕ)) → map unplaced (placed bytes pieces) ≡ map unplaced (tokens_in pieces)
placed_same bytes [] = refl
placed_same bytes (piece ∷ pieces) = ap (λ ts. unplaced piece.0 ∷ ts) (placed_same bytes pieces)

blanks_follow : (gap : List ℕ) (pieces : List (Token × List ℕ)) (t : Token) → AreSpaced ((t, gap) ∷ pieces) → (list_all is_blank gap ≡ true) × BeginsBlank (gap ++ printed pieces) × AreSpaced pieces
blanks_follow [] [] t spaced = (refl, tt, tt)
blanks_follow (b ∷ gap) [] t spaced = (spaced, (and_parts (is_blank b) _ spaced).0, tt)
blanks_follow [] (piece ∷ pieces) t spaced = absurd (omega (arith, spaced.0))
blanks_follow (b ∷ gap) (piece ∷ pieces) t spaced = (spaced.1, (and_parts (is_blank b) _ spaced.1).0, spaced.2)

begins_with_token : (pieces : List (Token × List ℕ)) → All IsSpelled (tokens_in pieces) → past_gap (printed pieces) ≡ printed pieces
unfolding past_gap past_comment
begins_with_token [] all = refl
begins_with_token (piece ∷ pieces) all = no_gap piece.0.kind piece.0.text (piece.1 ++ printed pieces) (All-head IsSpelled piece.0 (tokens_in pieces) all).spelled

reads_printed : (bytes from : List ℕ) (pieces : List (Token × List ℕ)) → past_gap from ≡ printed pieces → All IsSpelled (tokens_in pieces) → AreSpaced pieces → Reads bytes from (placed bytes pieces) []
reads_printed bytes from [] starts all spaced = starts
reads_printed bytes from (piece ∷ pieces) starts all spaced =
    let follow = blanks_follow piece.1 pieces piece.0 spaced in
    let t = piece.0 in
    let after : List ℕ = piece.1 ++ printed pieces in
    let others = All-tail IsSpelled t (tokens_in pieces) all in
    let left : drop (length t.text) (t.text ++ after) ≡ after = drop_at t.text after (length t.text) refl in
    let further : past_gap (drop (length t.text) (t.text ++ after)) ≡ printed pieces = ap past_gap left ∙ skips_blanks piece.1 (printed pieces) follow.0 ∙ begins_with_token pieces others in
    subst
    (λ (rest : List ℕ). IsTokenAt (place_of bytes rest) rest (record t { place = place_of bytes (printed (piece ∷ pieces)) }) × Reads bytes (drop (length t.text) rest) (placed bytes pieces) [])
    (sym starts)
    (token_before_blank (place_of bytes (printed (piece ∷ pieces))) t after (All-head IsSpelled t (tokens_in pieces) all) follow.1, reads_printed bytes (drop (length t.text) (t.text ++ after)) pieces further others follow.2)

pub reads_back : (pieces : List (Token × List ℕ)) → All IsSpelled (tokens_in pieces) → AreSpaced pieces → ReadsAs (printed pieces) (tokens_in pieces)
reads_back pieces all spaced =
    let bytes = printed pieces in
    record {
      again = placed (printed pieces) pieces;
      read = record {
        front = placed (printed pieces) pieces;
        whole = refl;
        read = reads_printed bytes bytes pieces (begins_with_token pieces all) all spaced;
      };
      same = placed_same bytes pieces;
    }

-- ---- what is read is spelled

token_is_spelled : (place : Place) (rest : List ℕ) (t : Token) → IsTokenAt place rest t → IsSpelled t
token_is_spelled place rest t token = record {
  spelled = subst (λ text. spells t.kind text ≡ true) (sym token.text) token.longest.spelled;
  value = token.value;
  small = token.small;
}

reads_spelled : (bytes from : List ℕ) (ts : List Token) (rest : List ℕ) → Reads bytes from ts rest → All IsSpelled ts
reads_spelled bytes from [] rest read = All-nil IsSpelled
reads_spelled bytes from (t ∷ ts) rest read =
    All-cons IsSpelled t ts (token_is_spelled _ _ t read.0) (reads_spelled bytes (drop (length t.text) (past_gap from)) ts rest read.1)

pub tokens_are_spelled : (bytes : List ℕ) (ts : List Token) → AreTokensOf bytes (ts ++ end_of bytes ∷ []) → All IsSpelled ts
tokens_are_spelled bytes ts tokens =
    subst (All IsSpelled) (sym (same_from_push ts tokens.front (end_of bytes) (end_of bytes) tokens.whole).0) (reads_spelled bytes bytes tokens.front [] tokens.read)
