-- Tokens that are the same apart from their places are seen so, and the canonical text is that of what is
-- seen.
use Rattle.std.proofs.Common.{◌≡◌, ◌==◌, ◌&&◌, cond, ℕ, suc, Bool, true, false, List, [], ◌∷◌, ◌++◌, map, codes, refl, sym, ap, ◌∙◌}
use Rattle.std.specs.Prelude.{◌||◌}
use Rattle.std.specs.Str.{bytes_eq}
use Rattle.cap_syntax.specs.declared.token.Token.{Token}
use Rattle.cap_syntax.specs.declared.token.TokenKind.{TokenKind}
use Rattle.cap_syntax.specs.declared.token.TokenKind.TheVariants as kind
use Rattle.cap_syntax.specs.Printing.{unplaced}
use Rattle.cap_parse_tree.specs.Canonical.{is_the_symbol, space_before, one_less, is_zero, may_end_line, gap_behind, parentheses_behind, canonical_from}
use Rattle.cap_parse_laws.specs.declared.class.Class.{Class}
use Rattle.cap_parse_laws.specs.declared.class.Class.TheVariants as c
use Rattle.cap_parse_laws.specs.Classes.{class, class_with, are_same}
use Rattle.cap_parse_laws.specs.Versions.{is_caper, is_two, is_word, is_before_index, as_keyword, as_version, seen, seen_from, headed, worded}
use Rattle.cap_parse_laws.proofs.Shapes.{same_is_equal, known, is_known, shaped}
use Rattle.cap_parse_laws.proofs.Completion.{both}
use Rattle.cap_parse_laws.proofs.View.{this-class}
use Rattle.cap_parse_laws.proofs.ReadBack.{same-head, same-tail, same-class}

abbrev Look : Type 0
Look = TokenKind × List ℕ × ℕ

abbrev class_of_look : Look → Class
class_of_look x = class_with x.0 x.1 x.2

abbrev keyword_look : Look → Look
keyword_look x = (kind.Keyword, x.1, 0)

cond-unplaced : (b : Bool) (t u : Token) → unplaced (cond b t u) ≡ cond b (unplaced t) (unplaced u)
cond-unplaced true t u = refl
cond-unplaced false t u = refl

abbrev seen_look : Bool → Look → Look
seen_look index x =
    cond ((index && are_same c.OpenBracket (class_of_look x)) || (are_same c.Name (class_of_look x) && is_word x.1)) (keyword_look x) x

seen-alike : (index : Bool) (t u : Token) → unplaced t ≡ unplaced u → unplaced (seen index t) ≡ unplaced (seen index u)
seen-alike index t u e =
    cond-unplaced ((index && are_same c.OpenBracket (class t)) || (are_same c.Name (class t) && is_word t.text)) (as_keyword t) t
    ∙ ap (seen_look index) e
    ∙ sym (cond-unplaced ((index && are_same c.OpenBracket (class u)) || (are_same c.Name (class u) && is_word u.text)) (as_keyword u) u)

two-alike : (t u : Token) → unplaced t ≡ unplaced u → unplaced (as_version t) ≡ unplaced (as_version u)
two-alike t u e =
    cond-unplaced (is_two t) (as_keyword t) t
    ∙ ap (λ (x : Look). cond (are_same c.Number (class_of_look x) && (bytes_eq x.1 (codes "2") && x.2 == 2)) (keyword_look x) x) e
    ∙ sym (cond-unplaced (is_two u) (as_keyword u) u)

from-alike : (index : Bool) (ts us : List Token) → map unplaced ts ≡ map unplaced us
    → map unplaced (seen_from index ts) ≡ map unplaced (seen_from index us)
from-alike index [] [] e = refl
from-alike index [] (u ∷ us) e = absurd cc
from-alike index (t ∷ ts) [] e = absurd cc
from-alike index (t ∷ ts) (u ∷ us) e =
    let h = same-head (unplaced t) (unplaced u) (map unplaced ts) (map unplaced us) e in
    let s = seen-alike index t u h in
    ap (λ x. x ∷ map unplaced (seen_from (is_before_index (class (seen index t))) ts)) s
    ∙ ap (λ k. unplaced (seen index u) ∷ map unplaced (seen_from (is_before_index k) ts)) (same-class (seen index t) (seen index u) s)
    ∙ ap (λ l. unplaced (seen index u) ∷ l) (from-alike (is_before_index (class (seen index u))) ts us (same-tail (unplaced t) (unplaced u) (map unplaced ts) (map unplaced us) e))

headed-alike : (ts us : List Token) → map unplaced ts ≡ map unplaced us → map unplaced (headed ts) ≡ map unplaced (headed us)
headed-alike [] [] e = refl
headed-alike [] (u ∷ us) e = absurd cc
headed-alike (t ∷ ts) [] e = absurd cc
headed-alike (t ∷ ts) (u ∷ us) e =
    ap (λ x. x ∷ map unplaced (seen_from false ts)) (two-alike t u (same-head (unplaced t) (unplaced u) (map unplaced ts) (map unplaced us) e))
    ∙ ap (λ l. unplaced (as_version u) ∷ l) (from-alike false ts us (same-tail (unplaced t) (unplaced u) (map unplaced ts) (map unplaced us) e))

pub worded-alike : (ts us : List Token) → map unplaced ts ≡ map unplaced us → map unplaced (worded ts) ≡ map unplaced (worded us)
worded-alike [] [] e = refl
worded-alike [] (u ∷ us) e = absurd cc
worded-alike (t ∷ ts) [] e = absurd cc
worded-alike (t ∷ ts) (u ∷ us) e = by (is_caper t) (is_caper u) (ap (λ (x : Look). are_same c.Name (class_of_look x) && bytes_eq x.1 (codes "caper")) h)
  where
    h : unplaced t ≡ unplaced u
    h = same-head (unplaced t) (unplaced u) (map unplaced ts) (map unplaced us) e

    tails : map unplaced ts ≡ map unplaced us
    tails = same-tail (unplaced t) (unplaced u) (map unplaced ts) (map unplaced us) e

    by : (a b : Bool) → a ≡ b → map unplaced (cond a (as_keyword t ∷ headed ts) (t ∷ ts)) ≡ map unplaced (cond b (as_keyword u ∷ headed us) (u ∷ us))
    by true true f = ap (λ x. x ∷ map unplaced (headed ts)) (ap keyword_look h) ∙ ap (λ l. unplaced (as_keyword u) ∷ l) (headed-alike ts us tails)
    by false false f = e
    by true false f = absurd cc
    by false true f = absurd cc

-- the canonical text is the same of what is seen

pub record Kept (u t : Token) : Type 0 where
  pub text : u.text ≡ t.text
  pub symbol : (w : List ℕ) → bytes_eq (codes "[") w ≡ false → is_the_symbol w u ≡ is_the_symbol w t

abbrev pub AllKept : List Token → List Token → Type 0
AllKept [] [] = Unit {0}
AllKept (u ∷ us) (t ∷ ts) = Kept u t × AllKept us ts
AllKept us ts = ⊥

kept-self : (t : Token) → Kept t t
kept-self t = record { text = refl; symbol = λ w e. refl }

all-kept-self : (ts : List Token) → AllKept ts ts
all-kept-self [] = tt
all-kept-self (t ∷ ts) = (kept-self t, all-kept-self ts)

kept-keyword : (k : Class) (t : Token) → class t ≡ k → is_known k ≡ true
    → ((w : List ℕ) → bytes_eq (codes "[") w ≡ false → is_the_symbol w (shaped k t) ≡ false) → Kept (as_keyword t) t
kept-keyword k t e n h = record {
  text = refl;
  symbol = λ w f. sym (ap (is_the_symbol w) (known t k e n) ∙ h w f);
}

kept-seen : (index : Bool) (t : Token) → Kept (seen index t) t
kept-seen index t = by (index && are_same c.OpenBracket (class t)) refl (are_same c.Name (class t) && is_word t.text) refl
  where
    by : (a : Bool) → (index && are_same c.OpenBracket (class t)) ≡ a → (b : Bool) → (are_same c.Name (class t) && is_word t.text) ≡ b → Kept (cond (a || b) (as_keyword t) t) t
    by true e b f = kept-keyword c.OpenBracket t (sym (same_is_equal c.OpenBracket (class t) (both index (are_same c.OpenBracket (class t)) e).1)) refl (λ w g. g)
    by false e true f = kept-keyword c.Name t (this-class c.Name t (is_word t.text) f) refl (λ w g. refl)
    by false e false f = kept-self t

kept-two : (t : Token) → Kept (as_version t) t
kept-two t = by (is_two t) refl
  where
    by : (b : Bool) → is_two t ≡ b → Kept (cond b (as_keyword t) t) t
    by true e = kept-keyword c.Number t (this-class c.Number t (bytes_eq t.text (codes "2") && t.value == 2) e) refl (λ w g. refl)
    by false e = kept-self t

kept-from : (index : Bool) (ts : List Token) → AllKept (seen_from index ts) ts
kept-from index [] = tt
kept-from index (t ∷ ts) = (kept-seen index t, kept-from (is_before_index (class (seen index t))) ts)

kept-headed : (ts : List Token) → AllKept (headed ts) ts
kept-headed [] = tt
kept-headed (t ∷ ts) = (kept-two t, kept-from false ts)

pub kept-worded : (ts : List Token) → AllKept (worded ts) ts
kept-worded [] = tt
kept-worded (t ∷ ts) = by (is_caper t) refl
  where
    by : (b : Bool) → is_caper t ≡ b → AllKept (cond b (as_keyword t ∷ headed ts) (t ∷ ts)) (t ∷ ts)
    by true e = (kept-keyword c.Name t (this-class c.Name t (bytes_eq t.text (codes "caper")) e) refl (λ w g. refl), kept-headed ts)
    by false e = all-kept-self (t ∷ ts)

kept-space : (us ts : List Token) → AllKept us ts → space_before us ≡ space_before ts
kept-space [] [] h = refl
kept-space (u ∷ us) (t ∷ ts) h = refl
kept-space [] (t ∷ ts) h = absurd h
kept-space (u ∷ us) [] h = absurd h

pub kept-canonical : (n : ℕ) (us ts : List Token) → AllKept us ts → canonical_from n us ≡ canonical_from n ts
kept-canonical n [] [] h = refl
kept-canonical n [] (t ∷ ts) h = absurd h
kept-canonical n (u ∷ us) [] h = absurd h
kept-canonical n (u ∷ us) (t ∷ ts) h =
    let line : may_end_line u ≡ may_end_line t =
    ap (λ b. b || is_the_symbol (codes "}") u || is_the_symbol (codes ";") u) (h.0.symbol (codes "{") refl)
    ∙ ap (λ b. is_the_symbol (codes "{") t || b || is_the_symbol (codes ";") u) (h.0.symbol (codes "}") refl)
    ∙ ap (λ b. is_the_symbol (codes "{") t || is_the_symbol (codes "}") t || b) (h.0.symbol (codes ";") refl) in
    let gap : gap_behind n u us ≡ gap_behind n t ts =
    ap (λ b. cond (is_zero n && b) (10 ∷ []) (space_before us)) line ∙ ap (λ l. cond (is_zero n && may_end_line t) (10 ∷ []) l) (kept-space us ts h.1) in
    let level : parentheses_behind n u ≡ parentheses_behind n t =
    ap (λ b. cond b (suc n) (cond (is_the_symbol (codes ")") u) (one_less n) n)) (h.0.symbol (codes "(") refl)
    ∙ ap (λ b. cond (is_the_symbol (codes "(") t) (suc n) (cond b (one_less n) n)) (h.0.symbol (codes ")") refl) in
    ap (λ x. x ++ (gap_behind n u us ++ canonical_from (parentheses_behind n u) us)) h.0.text
    ∙ ap (λ x. t.text ++ (x ++ canonical_from (parentheses_behind n u) us)) gap
    ∙ ap (λ k. t.text ++ (gap_behind n t ts ++ canonical_from k us)) level
    ∙ ap (λ x. t.text ++ (gap_behind n t ts ++ x)) (kept-canonical (parentheses_behind n t) us ts h.1)
