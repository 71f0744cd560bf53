-- Nothing is lost in the view: texts that are seen alike are the same.
use Rattle.std.proofs.Common.{◌≡◌, ◌==◌, ◌&&◌, cond, ℕ, map, Bool, true, false, List, [], ◌∷◌, arith, refl, sym, ap, ◌∙◌, subst, codes}
use Rattle.std.specs.Prelude.{◌||◌}
use Rattle.std.proofs.lemmas.Bool.Decides.{nat_tests}
use Rattle.std.proofs.lemmas.Slice.Eq.{bytes_eq-Decides}
use Rattle.std.specs.Str.{bytes_eq}
use Rattle.cap_syntax.specs.declared.place.Place.{Place}
use Rattle.cap_syntax.specs.declared.token.Token.{Token}
use Rattle.cap_syntax.specs.declared.token.TokenKind.TheVariants as kind
use Rattle.cap_parse_tree.specs.Tokens.{keyword}
use Rattle.cap_parse_laws.specs.declared.class.Class.{Class}
use Rattle.cap_parse_laws.specs.declared.class.Class.TheVariants as c
use Rattle.cap_parse_laws.specs.Classes.{class, are_same}
use Rattle.cap_parse_laws.specs.Versions.{is_caper, is_two, is_word, is_before_index, as_keyword, as_version, seen, seen_from, headed, worded}
use Rattle.cap_parse_laws.proofs.Shapes.{same_is_equal, known}
use Rattle.cap_parse_laws.proofs.Completion.{both}
use Rattle.cap_parse_laws.proofs.Plain.{is_new, IsPlain, ArePlain}
use Rattle.cap_parse_laws.proofs.View.{name_token, this-class, word-case, caper-text}

abbrev unseen_by : Class → Token → Token
unseen_by c.Caper t = name_token t.text t.place
unseen_by c.Faa t = name_token t.text t.place
unseen_by c.Dispose t = name_token t.text t.place
unseen_by c.AtIndex t = name_token t.text t.place
unseen_by c.FromIndex t = name_token t.text t.place
unseen_by c.Two t = record { kind = kind.Number; text = t.text; value = 2; place = t.place }
unseen_by c.Index t = record { kind = kind.Symbol; text = t.text; value = 0; place = t.place }
unseen_by k t = t

-- the token of the text that is seen so
abbrev pub unseen : Token → Token
unseen t = unseen_by (class t) t

plain-stays : (k : Class) → is_new k ≡ false → (t : Token) → unseen_by k t ≡ t
plain-stays c.Caper e t = cc
plain-stays c.Faa e t = cc
plain-stays c.Dispose e t = cc
plain-stays c.AtIndex e t = cc
plain-stays c.FromIndex e t = cc
plain-stays c.Two e t = cc
plain-stays c.Index e t = cc
plain-stays k e t = refl

abbrev IsNameAgain : Place → List ℕ → Type 0
IsNameAgain p text = unseen (keyword text p) ≡ name_token text p

word-again : (text : List ℕ) (p : Place) → is_word text ≡ true → IsNameAgain p text
word-again text p e = word-case (IsNameAgain p) refl refl refl refl text e

bracket-back : (t : Token) → class t ≡ c.OpenBracket → unseen (as_keyword t) ≡ t
bracket-back t e = subst (λ v. unseen (as_keyword v) ≡ v) (sym (known t c.OpenBracket e refl)) refl

seen-back : (index : Bool) (t : Token) → IsPlain t → unseen (seen index t) ≡ t
seen-back index t p = by (index && are_same c.OpenBracket (class t)) refl (are_same c.Name (class t) && is_word t.text) refl
  where
    by : (a : Bool) → (index && are_same c.OpenBracket (class t)) ≡ a → (b : Bool) → (are_same c.Name (class t) && is_word t.text) ≡ b
        → unseen (cond (a || b) (as_keyword t) t) ≡ t
    by true e b f = bracket-back t (sym (same_is_equal c.OpenBracket (class t) (both index (are_same c.OpenBracket (class t)) e).1))
    by false e true f =
        word-again t.text t.place (both (are_same c.Name (class t)) (is_word t.text) f).1
        ∙ sym (known t c.Name (this-class c.Name t (is_word t.text) f) refl)
    by false e false f = plain-stays (class t) p t

caper-back : (t : Token) → is_caper t ≡ true → unseen (as_keyword t) ≡ t
caper-back t e =
    subst (IsNameAgain t.place) (sym (caper-text t e)) refl
    ∙ sym (known t c.Name (this-class c.Name t (bytes_eq t.text (codes "caper")) e) refl)

two-back : (t : Token) → is_two t ≡ true → unseen (as_keyword t) ≡ t
two-back t e =
    let n = both (are_same c.Number (class t)) (bytes_eq t.text (codes "2") && t.value == 2) e in
    let m = both (bytes_eq t.text (codes "2")) (t.value == 2) n.1 in
    let value : t.value ≡ 2 = grind (arith, nat_tests, m.1) in
    subst (λ x. unseen (keyword x t.place) ≡ record { kind = kind.Number; text = x; value = 2; place = t.place }) (sym ((bytes_eq-Decides t.text (codes "2")).0 m.0)) refl
    ∙ ap (λ v. record { kind = kind.Number; text = t.text; value = v; place = t.place }) (sym value)
    ∙ sym (known t c.Number (this-class c.Number t (bytes_eq t.text (codes "2") && t.value == 2) e) refl)

from-back : (index : Bool) (ts : List Token) → ArePlain ts → map unseen (seen_from index ts) ≡ ts
from-back index [] p = refl
from-back index (t ∷ ts) p =
    ap (λ u. u ∷ map unseen (seen_from (is_before_index (class (seen index t))) ts)) (seen-back index t p.0)
    ∙ ap (λ l. t ∷ l) (from-back (is_before_index (class (seen index t))) ts p.1)

headed-back : (ts : List Token) → ArePlain ts → map unseen (headed ts) ≡ ts
headed-back [] p = refl
headed-back (t ∷ ts) p = by (is_two t) refl
  where
    by : (b : Bool) → is_two t ≡ b → map unseen (cond b (as_keyword t) t ∷ seen_from false ts) ≡ t ∷ ts
    by true e = ap (λ u. u ∷ map unseen (seen_from false ts)) (two-back t e) ∙ ap (λ l. t ∷ l) (from-back false ts p.1)
    by false e = ap (λ u. u ∷ map unseen (seen_from false ts)) (plain-stays (class t) p.0 t) ∙ ap (λ l. t ∷ l) (from-back false ts p.1)

plain-back : (ts : List Token) → ArePlain ts → map unseen ts ≡ ts
plain-back [] p = refl
plain-back (t ∷ ts) p = ap (λ u. u ∷ map unseen ts) (plain-stays (class t) p.0 t) ∙ ap (λ l. t ∷ l) (plain-back ts p.1)

pub view-back : (ts : List Token) → ArePlain ts → map unseen (worded ts) ≡ ts
view-back [] p = refl
view-back (t ∷ ts) p = by (is_caper t) refl
  where
    by : (b : Bool) → is_caper t ≡ b → map unseen (cond b (as_keyword t ∷ headed ts) (t ∷ ts)) ≡ t ∷ ts
    by true e = ap (λ u. u ∷ map unseen (headed ts)) (caper-back t e) ∙ ap (λ l. t ∷ l) (headed-back ts p.1)
    by false e = plain-back (t ∷ ts) p

-- texts that are seen alike are the same
pub seen-once : (ts us : List Token) → ArePlain ts → ArePlain us → worded ts ≡ worded us → ts ≡ us
seen-once ts us p q e = sym (view-back ts p) ∙ ap (map unseen) e ∙ view-back us q
