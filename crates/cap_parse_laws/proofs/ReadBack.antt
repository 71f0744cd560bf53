-- What is printed behind the tokens of a text, and tokens that are the same apart from their places.
use Rattle.std.proofs.Common.{◌≡◌, ℕ, ◌<◌, ◌≤◌, Bool, true, false, ◌&&◌, cond, List, [], ◌∷◌, ◌++◌, map, length, Option, Some, None, IsTrue, All, refl, sym, ap, ◌∙◌, subst, arith}
use Rattle.std.specs.List.{list_all}
use Rattle.cap_syntax.specs.declared.token.Token.{Token}
use Rattle.cap_syntax.specs.declared.token.TokenKind.{TokenKind}
use Rattle.cap_syntax.specs.Layout.{is_blank, end_of, AreTokensOf}
use Rattle.cap_syntax.specs.Printing.{IsSpelled, tokens_in, printed, AreSpaced, unplaced, ReadsAs}
use Rattle.cap_parse_tree.specs.Nesting.{room_behind}
use Rattle.cap_parse_tree.specs.Canonical.{is_zero, may_end_line, gap_behind, parentheses_behind, canonical_from}
use Rattle.cap_parse_laws.specs.Classes.{class, class_with}
use Rattle.cap_parse_laws.proofs.Automaton.{Stack, Move, on, stop, done, whole, wrong, deep, next, goes, within, run}

-- what is printed behind each token
pub pieces_from : ℕ → List Token → List (Token × List ℕ)
pieces_from n [] = []
pieces_from n (t ∷ ts) = (t, gap_behind n t ts) ∷ pieces_from (parentheses_behind n t) ts

pub pieces-tokens : (n : ℕ) (ts : List Token) → tokens_in (pieces_from n ts) ≡ ts
unfolding pieces_from
pieces-tokens n [] = refl
pieces-tokens n (t ∷ ts) = ap (λ l. t ∷ l) (pieces-tokens (parentheses_behind n t) ts)

pub pieces-printed : (n : ℕ) (ts : List Token) → printed (pieces_from n ts) ≡ canonical_from n ts
unfolding pieces_from
pieces-printed n [] = refl
pieces-printed n (t ∷ ts) = ap (λ l. t.text ++ (gap_behind n t ts ++ l)) (pieces-printed (parentheses_behind n t) ts)

pub pieces-spaced : (n : ℕ) (ts : List Token) → AreSpaced (pieces_from n ts)
unfolding pieces_from
pieces-spaced n [] = tt
pieces-spaced n (t ∷ []) = by (is_zero n && may_end_line t)
  where
    by : (b : Bool) → IsTrue (list_all is_blank (cond b (10 ∷ []) []))
    by true = refl
    by false = refl
pieces-spaced n (t ∷ u ∷ ts) = by (is_zero n && may_end_line t) (pieces-spaced (parentheses_behind n t) (u ∷ ts))
  where
    by : (b : Bool) → AreSpaced (pieces_from (parentheses_behind n t) (u ∷ ts))
        → (0 < length {A = ℕ} (cond b (10 ∷ []) (32 ∷ []))) × IsTrue (list_all is_blank (cond b (10 ∷ []) (32 ∷ []))) × AreSpaced (pieces_from (parentheses_behind n t) (u ∷ ts))
    by true h = (omega arith, refl, h)
    by false h = (omega arith, refl, h)

-- tokens that are the same apart from their places

pub same-head : {A : Type 0} (a b : A) (l m : List A) → a ∷ l ≡ b ∷ m → a ≡ b
same-head a b l m e = cc

pub same-tail : {A : Type 0} (a b : A) (l m : List A) → a ∷ l ≡ b ∷ m → l ≡ m
same-tail a b l m e = cc

pub same-class : (t u : Token) → unplaced t ≡ unplaced u → class t ≡ class u
same-class t u e = ap (λ (x : TokenKind × List ℕ × ℕ). class_with x.0 x.1 x.2) e

same-room : (d : ℕ) (t u : Token) → unplaced t ≡ unplaced u → room_behind d t ≡ room_behind d u
same-room d t u e = ap (λ (x : TokenKind × List ℕ × ℕ). room_behind d (record { kind = x.0; text = x.1; value = x.2; place = t.place })) e

pub alike : (s : Stack) (d : ℕ) (ts us : List Token) → map unplaced ts ≡ map unplaced us
    → run s d ts ≡ whole → run s d us ≡ whole
alike s d [] [] e h = h
alike s d [] (u ∷ us) e h = absurd cc
alike s d (t ∷ ts) [] e h = absurd cc
alike s d (t ∷ ts) (u ∷ us) e h =
    let same : unplaced t ≡ unplaced u = same-head (unplaced t) (unplaced u) (map unplaced ts) (map unplaced us) e in
    let rest : map unplaced ts ≡ map unplaced us = same-tail (unplaced t) (unplaced u) (map unplaced ts) (map unplaced us) e in
    by (λ s2 left f. alike s2 left ts us rest f) (next s (class t)) (ap (next s) (sym (same-class t u same))) (room_behind d t) (sym (same-room d t u same)) h
  where
    on_by : ((s2 : Stack) (left : ℕ) → run s2 left ts ≡ whole → run s2 left us ≡ whole) → (s2 : Stack) (o : Option ℕ)
        → within o (λ left. run s2 left ts) (deep (t ∷ ts)) ≡ whole → within o (λ left. run s2 left us) (deep (u ∷ us)) ≡ whole
    on_by again s2 (Some left) f = again s2 left f
    on_by again s2 None f = absurd cc

    by : ((s2 : Stack) (left : ℕ) → run s2 left ts ≡ whole → run s2 left us ≡ whole) → (m : Move) → next s (class u) ≡ m → (o : Option ℕ) → room_behind d u ≡ o
        → goes m (λ s2. within o (λ left. run s2 left ts) (deep (t ∷ ts))) (wrong (t ∷ ts)) ≡ whole → run s d (u ∷ us) ≡ whole
    by again (on s2) n o r f =
        ap (λ m. goes m (λ s3. within (room_behind d u) (λ left. run s3 left us) (deep (u ∷ us))) (wrong (u ∷ us))) n
        ∙ ap (λ p. within p (λ left. run s2 left us) (deep (u ∷ us))) r ∙ on_by again s2 o f
    by again stop n o r f = absurd cc
    by again done n o r f = absurd cc

-- tokens that are printed with blanks between them are read again
abbrev pub ArePrintedBack : Type 0
ArePrintedBack = (pieces : List (Token × List ℕ)) → All IsSpelled (tokens_in pieces) → AreSpaced pieces → ReadsAs (printed pieces) (tokens_in pieces)

abbrev pub AreSpelledInTexts : Type 0
AreSpelledInTexts = (bytes : List ℕ) (ts : List Token) → AreTokensOf bytes (ts ++ end_of bytes ∷ []) → All IsSpelled ts
