-- A text has one list of tokens, or one refusal.
use Rattle.std.proofs.Common.{◌≡◌, ℕ, true, false, cond, ◌||◌, eqb, List, [], ◌∷◌, length, take, drop, refl, sym, ap, subst, ◌∙◌, arith, ⊎_elim}
use Rattle.std.specs.Prelude.{codes, ◌==◌}
use Rattle.std.specs.Char.{is_ascii_alphabetic, is_ascii_digit}
use Rattle.std.specs.Str.{bytes_eq}
use Rattle.std.proofs.lemmas.Bool.{false≢true, both_ways, and_parts, not-true, cond-true, cond-false, cases_order, false_from_ne_true, or_parts, eqb-true}
use Rattle.std.proofs.lemmas.Slice.Eq.{bytes_eq-Decides}
use Rattle.cap_syntax.specs.declared.place.Place.{Place}
use Rattle.cap_syntax.specs.declared.token.Token.{Token}
use Rattle.cap_syntax.specs.declared.token.TokenKind.{TokenKind}
use Rattle.cap_syntax.specs.declared.token.TokenKind.TheVariants.{Name, Keyword, Number, Share, Wildcard, Symbol, End}
use Rattle.cap_syntax.specs.Spelling.{is_word, is_number, keywords, is_one_of, spells, IsLongest, value_of}
use Rattle.cap_syntax.specs.Place.{place_of}
use Rattle.cap_syntax.specs.Layout.{past_gap, IsTokenAt, Reads}
use Rattle.cap_syntax.proofs.Longest.{head_starts, digit_starts, nothing_spelled}

-- the only kind that a text can be
kind_at : ℕ → List ℕ → TokenKind
kind_at b bs =
    cond (is_ascii_alphabetic b) (cond (is_one_of keywords (b ∷ bs)) Keyword Name)
    (cond (is_ascii_digit b) (cond (bytes_eq (codes "1p") (b ∷ bs)) Share Number)
    (cond (b == 95) Wildcard Symbol))

share_is_no_number : (text : List ℕ) → is_number text ≡ true → bytes_eq (codes "1p") text ≡ false
share_is_no_number text number =
    false_from_ne_true _ (λ share. false≢true (subst (λ t. is_number t ≡ true) (sym ((bytes_eq-Decides (codes "1p") text).0 share)) number))

letter_kind : (b : ℕ) (bs : List ℕ) (k : TokenKind) → is_ascii_alphabetic b ≡ true → cond (is_one_of keywords (b ∷ bs)) Keyword Name ≡ k → kind_at b bs ≡ k
unfolding kind_at
letter_kind b bs k letter inner = cond-true _ _ _ letter ∙ inner

digit_kind : (b : ℕ) (bs : List ℕ) (k : TokenKind) → is_ascii_digit b ≡ true → cond (bytes_eq (codes "1p") (b ∷ bs)) Share Number ≡ k → kind_at b bs ≡ k
unfolding kind_at
digit_kind b bs k digit inner = cond-false _ _ _ (digit_starts b digit).0 ∙ cond-true _ _ _ digit ∙ inner

kind_is : (k : TokenKind) (b : ℕ) (bs : List ℕ) → spells k (b ∷ bs) ≡ true → kind_at b bs ≡ k
unfolding kind_at
kind_is Name b bs h = letter_kind b bs Name (head_starts Name b bs h) (cond-false _ _ _ (not-true _ (and_parts (is_word (b ∷ bs)) _ h).1))
kind_is Keyword b bs h = letter_kind b bs Keyword (head_starts Keyword b bs h) (cond-true _ _ _ h)
kind_is Number b bs h = digit_kind b bs Number (head_starts Number b bs h) (cond-false _ _ _ (share_is_no_number (b ∷ bs) h))
kind_is Share b bs h = digit_kind b bs Share (head_starts Share b bs h) (cond-true _ _ _ h)
kind_is Wildcard b bs h =
    subst (λ x. kind_at x bs ≡ Wildcard) (eqb-true 95 b (and_parts (eqb 95 b) _ h).0) refl
kind_is Symbol b bs h =
    let other = or_parts (is_ascii_alphabetic b || is_ascii_digit b) (b == 95) (not-true _ (head_starts Symbol b bs h)) in
    let letters = or_parts (is_ascii_alphabetic b) (is_ascii_digit b) other.0 in
    rw (letters.0, letters.1, other.1) refl
kind_is End b bs h = absurd (false≢true h)

one_kind : (k l : TokenKind) (text : List ℕ) → spells k text ≡ true → spells l text ≡ true → k ≡ l
one_kind k l [] h g = absurd (both_ways _ (nothing_spelled k) h)
one_kind k l (b ∷ bs) h g = sym (kind_is k b bs h) ∙ kind_is l b bs g

-- one longest token
pub one_length : (k l : TokenKind) (n m : ℕ) (rest : List ℕ) → IsLongest k n rest → IsLongest l m rest → n ≡ m
one_length k l n m rest p q =
    ⊎_elim
    (λ same. same)
    (λ apart. ⊎_elim (λ less. absurd (both_ways _ (p.longest l m less q.within) q.spelled)) (λ more. absurd (both_ways _ (q.longest k n more p.within) p.spelled)) apart)
    (cases_order n m)

pub one_longest : (k l : TokenKind) (n m : ℕ) (rest : List ℕ) → IsLongest k n rest → IsLongest l m rest → (k ≡ l) × (n ≡ m)
one_longest k l n m rest p q =
    let same = one_length k l n m rest p q in
    (one_kind k l (take n rest) p.spelled (subst (λ i. spells l (take i rest) ≡ true) (sym same) q.spelled), same)

-- two tokens with the same parts are one
same_token : (t u : Token) → t.kind ≡ u.kind → t.text ≡ u.text → t.value ≡ u.value → t.place ≡ u.place → t ≡ u
same_token t u kind text value place = λ i. record { kind = kind i; text = text i; value = value i; place = place i }

pub one_token : (place : Place) (rest : List ℕ) (t u : Token) → IsTokenAt place rest t → IsTokenAt place rest u → t ≡ u
one_token place rest t u p q =
    let same = one_longest t.kind u.kind (length t.text) (length u.text) rest p.longest q.longest in
    let text : t.text ≡ u.text = p.text ∙ ap (λ n. take n rest) same.1 ∙ sym q.text in
    let value : t.value ≡ u.value = p.value ∙ (λ i. value_of (same.0 i) (text i)) ∙ sym q.value in
    same_token t u same.0 text value (p.at ∙ sym q.at)

-- no token stands here
abbrev pub Stops : List ℕ → List ℕ → Type 0
Stops bytes rest = (t : Token) → IsTokenAt (place_of bytes rest) rest t → ⊥

-- reading stops at one place, behind one list of tokens
pub one_stop : (bytes from : List ℕ) (ts us : List Token) (rest left : List ℕ) → Reads bytes from ts rest → Stops bytes rest → Reads bytes from us left → Stops bytes left → (ts ≡ us) × (rest ≡ left)
one_stop bytes from [] [] rest left p stop q halt = (refl, sym p ∙ q)
one_stop bytes from [] (u ∷ us) rest left p stop q halt = absurd (subst (Stops bytes) (sym p) stop u q.0)
one_stop bytes from (t ∷ ts) [] rest left p stop q halt = absurd (subst (Stops bytes) (sym q) halt t p.0)
one_stop bytes from (t ∷ ts) (u ∷ us) rest left p stop q halt =
    let same = one_token (place_of bytes (past_gap from)) (past_gap from) t u p.0 q.0 in
    let further = one_stop bytes (drop (length t.text) (past_gap from)) ts us rest left p.1 stop (subst (λ (x : Token). Reads bytes (drop (length x.text) (past_gap from)) us left) (sym same) q.1) halt in
    ((λ i. same i ∷ further.0 i), further.1)

pub nothing_stands : (bytes : List ℕ) → Stops bytes []
nothing_stands bytes t token =
    let none : length t.text ≡ 0 = omega (arith, token.longest.within) in
    both_ways _ (ap (λ n. spells t.kind (take n [])) none ∙ nothing_spelled t.kind) token.longest.spelled
