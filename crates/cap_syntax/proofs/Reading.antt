-- One more token is read.
use Rattle.std.proofs.Common.{◌≡◌, ℕ, zero, suc, ◌<◌, ◌≤◌, ◌≢◌, cond, eqb, List, [], ◌∷◌, ◌++◌, length, take, drop, refl, sym, ap, subst, ◌∙◌, arith, length-drop}
use Rattle.std.specs.Prelude.{All}
use Rattle.std.proofs.lemmas.Bool.{both_ways, cond_both}
use Rattle.std.proofs.lemmas.List.{nil_from_length}
use Rattle.std.proofs.lemmas.List.Elements.{All-nil, All-cons}
use Rattle.cap_syntax.specs.declared.place.Place.{Place}
use Rattle.cap_syntax.specs.declared.token.Token.{Token}
use Rattle.cap_syntax.specs.declared.token.TokenKind.{TokenKind}
use Rattle.cap_syntax.specs.declared.token.TokenKind.TheVariants.{End}
use Rattle.cap_syntax.specs.Spelling.{spells, IsLongest}
use Rattle.cap_syntax.specs.Place.{place_of, StandsAt}
use Rattle.cap_syntax.specs.Layout.{is_blank, begins_comment, past_gap, past_comment, IsTokenAt, Reads, end_of, AreTokensOf, EndsOnce}
use Rattle.cap_syntax.proofs.Longest.{nothing_spelled}
use Rattle.cap_syntax.proofs.Places.{stands_behind, starts_at}

-- what is left is a back of the rest
abbrev IsBack : List ℕ → List ℕ → Type 0
IsBack rest left = (n : ℕ) × (n ≤ length rest) × (left ≡ drop n rest)

one_further : (b : ℕ) (bs left : List ℕ) → IsBack bs left → IsBack (b ∷ bs) left
one_further b bs left back = (suc back.0, omega (arith, back.1), back.2)

mutual
  unfolding past_gap past_comment

  pub gap_is_back : (rest : List ℕ) → IsBack rest (past_gap rest)
  gap_is_back [] = (0, omega arith, refl)
  gap_is_back (b ∷ bs) =
      cond_both (begins_comment (b ∷ bs)) (past_comment bs) (cond (is_blank b) (past_gap bs) (b ∷ bs)) (IsBack (b ∷ bs))
      (λ _. one_further b bs (past_comment bs) (comment_is_back bs))
      (λ _. cond_both (is_blank b) (past_gap bs) (b ∷ bs) (IsBack (b ∷ bs)) (λ _. one_further b bs (past_gap bs) (gap_is_back bs)) (λ _. (0, omega arith, refl)))

  comment_is_back : (rest : List ℕ) → IsBack rest (past_comment rest)
  comment_is_back [] = (0, omega arith, refl)
  comment_is_back (b ∷ bs) =
      cond_both (eqb b 10) (past_gap bs) (past_comment bs) (IsBack (b ∷ bs)) (λ _. one_further b bs (past_gap bs) (gap_is_back bs)) (λ _. one_further b bs (past_comment bs) (comment_is_back bs))

pub gap_is_shorter : (rest : List ℕ) → length (past_gap rest) ≤ length rest
gap_is_shorter rest =
    let back = gap_is_back rest in
    omega (arith, ap length back.2, length-drop back.0 rest)

pub gap_stands : (bytes rest : List ℕ) → StandsAt bytes rest (place_of bytes rest) → StandsAt bytes (past_gap rest) (place_of bytes (past_gap rest))
gap_stands bytes rest stands =
    let back = gap_is_back rest in
    subst (λ (r : List ℕ). StandsAt bytes r (place_of bytes r)) (sym back.2) (stands_behind bytes rest (place_of bytes rest) back.0 stands back.1)

reads_stand : (bytes from : List ℕ) (ts : List Token) (rest : List ℕ) → StandsAt bytes from (place_of bytes from) → Reads bytes from ts rest → StandsAt bytes rest (place_of bytes rest)
reads_stand bytes from [] rest stands read = subst (λ (r : List ℕ). StandsAt bytes r (place_of bytes r)) read (gap_stands bytes from stands)
reads_stand bytes from (t ∷ ts) rest stands read =
    reads_stand bytes (drop (length t.text) (past_gap from)) ts rest (stands_behind bytes (past_gap from) (place_of bytes (past_gap from)) (length t.text) (gap_stands bytes from stands) read.0.longest.within) read.1

-- what tokens of the text leave is a back of it
pub text_stands : (bytes : List ℕ) (ts : List Token) (rest : List ℕ) → Reads bytes bytes ts rest → StandsAt bytes rest (place_of bytes rest)
text_stands bytes ts rest read = reads_stand bytes bytes ts rest (record { within = omega arith; rest_of = (starts_at bytes).rest_of; at = refl }) read

pub token_has_bytes : (kind : TokenKind) (n : ℕ) (rest : List ℕ) → IsLongest kind n rest → 0 < n
token_has_bytes kind zero rest longest = absurd (both_ways _ (nothing_spelled kind) longest.spelled)
token_has_bytes kind (suc n) rest longest = omega arith

pub less_is_left : (rest : List ℕ) (place : Place) (t : Token) → IsTokenAt place rest t → length (past_gap (drop (length t.text) rest)) < length rest
less_is_left rest place t token =
    omega (arith, gap_is_shorter (drop (length t.text) rest), length-drop (length t.text) rest, token_has_bytes t.kind (length t.text) rest token.longest, token.longest.within)

pub reads_one_more : (bytes from : List ℕ) (ts : List Token) (rest : List ℕ) (t : Token) → Reads bytes from ts rest → IsTokenAt (place_of bytes rest) rest t
    → Reads bytes from (ts ++ t ∷ []) (past_gap (drop (length t.text) rest))
reads_one_more bytes from [] rest t read token =
    subst (λ r. IsTokenAt (place_of bytes r) r t × (past_gap (drop (length t.text) r) ≡ past_gap (drop (length t.text) rest))) (sym read) (token, refl)
reads_one_more bytes from (u ∷ ts) rest t read token =
    (read.0, reads_one_more bytes (drop (length u.text) (past_gap from)) ts rest t read.1 token)

token_is_no_end : (place : Place) (rest : List ℕ) (t : Token) → IsTokenAt place rest t → t.kind ≢ End
token_is_no_end place rest t token is_end =
    both_ways _ (ap (λ k. spells k (take (length t.text) rest)) is_end) token.longest.spelled

reads_no_end : (bytes from : List ℕ) (ts : List Token) (rest : List ℕ) → Reads bytes from ts rest → All (λ t. t.kind ≢ End) ts
reads_no_end bytes from [] rest read = All-nil (λ t. t.kind ≢ End)
reads_no_end bytes from (t ∷ ts) rest read =
    All-cons (λ u. u.kind ≢ End) t ts (token_is_no_end _ _ t read.0) (reads_no_end bytes (drop (length t.text) (past_gap from)) ts rest read.1)

pub ends_once : (bytes : List ℕ) (all : List Token) → AreTokensOf bytes all → EndsOnce all
ends_once bytes all tokens = record {
  front = tokens.front;
  last = end_of bytes;
  whole = tokens.whole;
  ended = refl;
  no_earlier = reads_no_end bytes bytes tokens.front [] tokens.read;
}

pub all_are_read : (bytes : List ℕ) (ts all : List Token) (rest : List ℕ) (place : Place) → Reads bytes bytes ts rest → StandsAt bytes rest place → length rest ≡ 0
    → all ≡ ts ++ (record { kind = End; text = []; value = 0; place = place }) ∷ [] → AreTokensOf bytes all
all_are_read bytes ts all rest place read stands none all-is =
    let nil : rest ≡ [] = nil_from_length rest none in
    record {
      front = ts;
      whole = all-is ∙ ap (λ (p : Place). ts ++ (record { kind = End; text = []; value = 0; place = p }) ∷ []) (stands.at ∙ ap (place_of bytes) nil);
      read = subst (Reads bytes bytes ts) nil read;
    }
