-- The view of a text's front and rest, and its brackets.
use Rattle.std.proofs.Common.{◌≡◌, ◌==◌, ◌&&◌, cond, ℕ, suc, Bool, true, false, List, [], ◌∷◌, ◌++◌, Option, None, Some, refl, sym, ap, ◌∙◌, subst, codes}
use Rattle.std.specs.Prelude.{◌||◌}
use Rattle.std.proofs.lemmas.Slice.Eq.{bytes_eq-Decides}
use Rattle.std.specs.Str.{bytes_eq}
use Rattle.cap_syntax.specs.declared.place.Place.{Place}
use Rattle.cap_syntax.specs.declared.token.Token.{Token}
use Rattle.cap_syntax.specs.declared.token.TokenKind.TheVariants as kind
use Rattle.cap_parse_tree.specs.Tokens.{keyword}
use Rattle.cap_parse_tree.specs.Nesting.{opens, closes, one_fewer, room_behind, onwards, room_left}
use Rattle.cap_parse_laws.specs.declared.class.Class.{Class}
use Rattle.cap_parse_laws.specs.declared.class.Class.TheVariants as c
use Rattle.cap_parse_laws.specs.Classes.{class, are_same}
use Rattle.cap_parse_laws.specs.Versions.{is_caper, is_two, is_word, is_before_index, as_keyword, as_version, seen, seen_from, headed, worded, after, behind_caper, behind}
use Rattle.cap_parse_laws.proofs.Shapes.{same_is_equal, known}
use Rattle.cap_parse_laws.proofs.Completion.{both}

pub same-first : (t u : Token) (ts us : List Token) → t ∷ ts ≡ u ∷ us → t ≡ u
same-first t u ts us e = cc

pub same-others : (t u : Token) (ts us : List Token) → t ∷ ts ≡ u ∷ us → ts ≡ us
same-others t u ts us e = cc

-- the view of a front is a front of the view

from-behind : (index : Bool) (xs ys : List Token)
    → seen_from index (xs ++ ys) ≡ seen_from index xs ++ seen_from (after index (seen_from index xs)) ys
from-behind index [] ys = refl
from-behind index (t ∷ xs) ys =
    ap (λ l. seen index t ∷ l) (from-behind (is_before_index (class (seen index t))) xs ys)

headed-behind : (xs ys : List Token) → headed (xs ++ ys) ≡ headed xs ++ behind_caper xs ys
headed-behind [] ys = refl
headed-behind (t ∷ xs) ys = ap (λ l. as_version t ∷ l) (from-behind false xs ys)

pub worded-behind : (front rest : List Token) → worded (front ++ rest) ≡ worded front ++ behind front rest
worded-behind [] rest = refl
worded-behind (t ∷ front) rest = by (is_caper t)
  where
    by : (b : Bool)
        → cond b (as_keyword t ∷ headed (front ++ rest)) (t ∷ (front ++ rest))
        ≡ cond b (as_keyword t ∷ headed front) (t ∷ front) ++ cond b (behind_caper front rest) rest
    by true = ap (λ l. as_keyword t ∷ l) (headed-behind front rest)
    by false = refl

pub none-behind : (front : List Token) → behind front [] ≡ []
none-behind [] = refl
none-behind (t ∷ front) = by (is_caper t)
  where
    named : (fs : List Token) → behind_caper fs [] ≡ []
    named [] = refl
    named (g ∷ fs) = refl

    by : (b : Bool) → cond {A = List Token} b (behind_caper front []) [] ≡ []
    by true = named front
    by false = refl

-- a text is split where its view is

abbrev Split : (List Token → List Token) → List Token → List Token → Type 0
Split see ts front = (xs : List Token) × (ys : List Token) × (ts ≡ xs ++ ys) × (see xs ≡ front)

more-split : (see later : List Token → List Token) (t u f : Token) (ts front : List Token)
    → ((xs : List Token) → see (t ∷ xs) ≡ u ∷ later xs) → u ≡ f → Split later ts front
    → Split see (t ∷ ts) (f ∷ front)
more-split see later t u f ts front step h x =
    (t ∷ x.0, x.1, ap (λ l. t ∷ l) x.2, step x.0 ∙ ap (λ l. u ∷ l) x.3 ∙ ap (λ v. v ∷ front) h)

from-split : (index : Bool) (ts front rest : List Token) → seen_from index ts ≡ front ++ rest
    → Split (seen_from index) ts front
from-split index ts [] rest e = ([], ts, refl, refl)
from-split index [] (f ∷ front) rest e = absurd cc
from-split index (t ∷ ts) (f ∷ front) rest e =
    more-split (seen_from index) (seen_from (is_before_index (class (seen index t)))) t (seen index t) f ts front
    (λ xs. refl)
    (same-first (seen index t) f (seen_from (is_before_index (class (seen index t))) ts) (front ++ rest) e)
    (from-split (is_before_index (class (seen index t))) ts front rest
    (same-others (seen index t) f (seen_from (is_before_index (class (seen index t))) ts) (front ++ rest) e))

headed-split : (ts front rest : List Token) → headed ts ≡ front ++ rest → Split headed ts front
headed-split ts [] rest e = ([], ts, refl, refl)
headed-split [] (f ∷ front) rest e = absurd cc
headed-split (t ∷ ts) (f ∷ front) rest e =
    more-split headed (seen_from false) t (as_version t) f ts front (λ xs. refl)
    (same-first (as_version t) f (seen_from false ts) (front ++ rest) e)
    (from-split false ts front rest (same-others (as_version t) f (seen_from false ts) (front ++ rest) e))

worded-split : (ts front rest : List Token) → worded ts ≡ front ++ rest → Split worded ts front
worded-split ts [] rest e = ([], ts, refl, refl)
worded-split [] (f ∷ front) rest e = absurd cc
worded-split (t ∷ ts) (f ∷ front) rest e = by (is_caper t) refl e
  where
    by : (b : Bool) → is_caper t ≡ b → cond b (as_keyword t ∷ headed ts) (t ∷ ts) ≡ f ∷ front ++ rest
        → Split worded (t ∷ ts) (f ∷ front)
    by true n g =
        more-split worded headed t (as_keyword t) f ts front
        (λ xs. ap (λ b. cond b (as_keyword t ∷ headed xs) (t ∷ xs)) n)
        (same-first (as_keyword t) f (headed ts) (front ++ rest) g)
        (headed-split ts front rest (same-others (as_keyword t) f (headed ts) (front ++ rest) g))
    by false n g =
        more-split worded (λ xs. xs) t t f ts front
        (λ xs. ap (λ b. cond b (as_keyword t ∷ headed xs) (t ∷ xs)) n)
        (same-first t f ts (front ++ rest) g)
        (front, rest, same-others t f ts (front ++ rest) g, refl)

cancel-front : (xs ys zs : List Token) → xs ++ ys ≡ xs ++ zs → ys ≡ zs
cancel-front [] ys zs e = e
cancel-front (x ∷ xs) ys zs e = cancel-front xs ys zs (same-others x x (xs ++ ys) (xs ++ zs) e)

pub view-split : (ts front rest : List Token) → worded ts ≡ front ++ rest
    → (xs : List Token) × (ys : List Token) × (ts ≡ xs ++ ys) × (worded xs ≡ front) × (behind xs ys ≡ rest)
view-split ts front rest e =
    let x = worded-split ts front rest e in (
      x.0,
      x.1,
      x.2,
      x.3,
      cancel-front front (behind x.0 x.1) rest
          (ap (λ l. l ++ behind x.0 x.1) (sym x.3) ∙ sym (worded-behind x.0 x.1) ∙ ap worded (sym x.2) ∙ e),
    )

-- a token opens and closes what it is seen to open and close

pub this-class : (k : Class) (t : Token) (b : Bool) → (are_same k (class t) && b) ≡ true → class t ≡ k
this-class k t b e = sym (same_is_equal k (class t) (both (are_same k (class t)) b e).0)

pub caper-text : (t : Token) → is_caper t ≡ true → t.text ≡ codes "caper"
caper-text t e =
    (bytes_eq-Decides t.text (codes "caper")).0
    (both (are_same c.Name (class t)) (bytes_eq t.text (codes "caper")) e).1

-- what holds of each of the words
pub word-case : (P : List ℕ → Type 0) → P (codes "FAA") → P (codes "dispose") → P (codes "at") → P (codes "from")
    → (text : List ℕ) → is_word text ≡ true → P text
word-case P a b f g text e =
    by (bytes_eq text (codes "FAA")) refl (bytes_eq text (codes "dispose")) refl
    (bytes_eq text (codes "at")) refl (bytes_eq text (codes "from")) refl e
  where
    it : (w : List ℕ) → bytes_eq text w ≡ true → P w → P text
    it w f h = subst P (sym ((bytes_eq-Decides text w).0 f)) h

    by : (x : Bool) → bytes_eq text (codes "FAA") ≡ x → (y : Bool) → bytes_eq text (codes "dispose") ≡ y
        → (z : Bool) → bytes_eq text (codes "at") ≡ z → (w : Bool) → bytes_eq text (codes "from") ≡ w
        → (x || (y || (z || w))) ≡ true → P text
    by true h y i z j w k e = it (codes "FAA") h a
    by false h true i z j w k e = it (codes "dispose") i b
    by false h false i true j w k e = it (codes "at") j f
    by false h false i false j true k e = it (codes "from") k g
    by false h false i false j false k e = cc

abbrev HaveSameBrackets : Token → Token → Type 0
HaveSameBrackets u t = (opens u ≡ opens t) × (closes u ≡ closes t)

abbrev pub name_token : List ℕ → Place → Token
name_token text p = record { kind = kind.Name; text = text; value = 0; place = p }

abbrev OpensNothing : Place → List ℕ → Type 0
OpensNothing p text = HaveSameBrackets (keyword text p) (name_token text p)

name-brackets : (t : Token) → class t ≡ c.Name → OpensNothing t.place t.text → HaveSameBrackets (as_keyword t) t
name-brackets t e h = subst (HaveSameBrackets (as_keyword t)) (sym (known t c.Name e refl)) h

bracket-brackets : (t : Token) → class t ≡ c.OpenBracket → HaveSameBrackets (as_keyword t) t
bracket-brackets t e =
    subst (λ v. HaveSameBrackets (as_keyword v) v) (sym (known t c.OpenBracket e refl)) (refl, refl)

caper-brackets : (t : Token) → is_caper t ≡ true → HaveSameBrackets (as_keyword t) t
caper-brackets t e =
    name-brackets t (this-class c.Name t (bytes_eq t.text (codes "caper")) e)
    (subst (OpensNothing t.place) (sym (caper-text t e)) (refl, refl))

seen-brackets : (index : Bool) (t : Token) → HaveSameBrackets (seen index t) t
seen-brackets index t =
    by (index && are_same c.OpenBracket (class t)) refl (are_same c.Name (class t) && is_word t.text) refl
  where
    by : (a : Bool) → (index && are_same c.OpenBracket (class t)) ≡ a
        → (b : Bool) → (are_same c.Name (class t) && is_word t.text) ≡ b
        → HaveSameBrackets (cond (a || b) (as_keyword t) t) t
    by true e b f =
        bracket-brackets t
        (sym (same_is_equal c.OpenBracket (class t) (both index (are_same c.OpenBracket (class t)) e).1))
    by false e true f =
        name-brackets t (this-class c.Name t (is_word t.text) f)
        (word-case (OpensNothing t.place) (refl, refl) (refl, refl) (refl, refl) (refl, refl) t.text
        (both (are_same c.Name (class t)) (is_word t.text) f).1)
    by false e false f = (refl, refl)

version-brackets : (t : Token) → HaveSameBrackets (as_version t) t
version-brackets t = by (is_two t) refl
  where
    number : class t ≡ c.Number → bytes_eq t.text (codes "2") ≡ true → HaveSameBrackets (as_keyword t) t
    number e f =
        subst (HaveSameBrackets (as_keyword t)) (sym (known t c.Number e refl))
        (subst (λ text. HaveSameBrackets (keyword text t.place) (record { kind = kind.Number; text = text; value = t.value; place = t.place }))
        (sym ((bytes_eq-Decides t.text (codes "2")).0 f)) (refl, refl))

    by : (b : Bool) → is_two t ≡ b → HaveSameBrackets (cond b (as_keyword t) t) t
    by true e =
        let n = both (are_same c.Number (class t)) (bytes_eq t.text (codes "2") && t.value == 2) e in
        number (this-class c.Number t (bytes_eq t.text (codes "2") && t.value == 2) e)
        (both (bytes_eq t.text (codes "2")) (t.value == 2) n.1).0
    by false e = (refl, refl)

same-room : (d : ℕ) (u t : Token) → HaveSameBrackets u t → room_behind d u ≡ room_behind d t
same-room d u t s =
    ap (λ b. cond b (one_fewer d) (cond (closes u) (Some (suc d)) (Some d))) s.0
    ∙ ap (λ b. cond (opens t) (one_fewer d) (cond b (Some (suc d)) (Some d))) s.1

more-room : (d : ℕ) (u t : Token) (us ts : List Token) → HaveSameBrackets u t
    → ((n : ℕ) → room_left n us ≡ room_left n ts) → room_left d (u ∷ us) ≡ room_left d (t ∷ ts)
more-room d u t us ts s more =
    ap (λ o. onwards o (λ left. room_left left us)) (same-room d u t s) ∙ by (room_behind d t)
  where
    by : (o : Option ℕ) → onwards o (λ left. room_left left us) ≡ onwards o (λ left. room_left left ts)
    by None = refl
    by (Some n) = more n

from-room : (index : Bool) (ts : List Token) (d : ℕ) → room_left d (seen_from index ts) ≡ room_left d ts
from-room index [] d = refl
from-room index (t ∷ ts) d =
    more-room d (seen index t) t (seen_from (is_before_index (class (seen index t))) ts) ts (seen-brackets index t)
    (from-room (is_before_index (class (seen index t))) ts)

headed-room : (ts : List Token) (d : ℕ) → room_left d (headed ts) ≡ room_left d ts
headed-room [] d = refl
headed-room (t ∷ ts) d =
    more-room d (as_version t) t (seen_from false ts) ts (version-brackets t) (from-room false ts)

-- as many brackets may open behind a text as behind its view
pub view-room : (d : ℕ) (ts : List Token) → room_left d (worded ts) ≡ room_left d ts
view-room d [] = refl
view-room d (t ∷ ts) = by (is_caper t) refl
  where
    by : (b : Bool) → is_caper t ≡ b → room_left d (cond b (as_keyword t ∷ headed ts) (t ∷ ts)) ≡ room_left d (t ∷ ts)
    by true e = more-room d (as_keyword t) t (headed ts) ts (caper-brackets t e) (headed-room ts)
    by false e = refl

-- one more token: as it is seen, in front of others and alone
pub record SeenNext (front : List Token) (t : Token) (others : List Token) : Type 0 where
  pub token : Token
  pub left : List Token
  pub whole : behind front (t ∷ others) ≡ token ∷ left
  pub alone : behind front (t ∷ []) ≡ token ∷ []
  pub opening : opens token ≡ opens t

abbrev Named : Token → List Token → List Token → Type 0
Named t others front =
    (u : Token) × (left : List Token) × (behind_caper front (t ∷ others) ≡ u ∷ left)
    × (behind_caper front (t ∷ []) ≡ u ∷ []) × (opens u ≡ opens t)

pub seen-next : (front : List Token) (t : Token) (others : List Token) → SeenNext front t others
seen-next [] t others = by (is_caper t) refl
  where
    by : (b : Bool) → is_caper t ≡ b → SeenNext [] t others
    by true e = record {
      token = as_keyword t;
      left = headed others;
      whole = ap (λ b. cond b (as_keyword t ∷ headed others) (t ∷ others)) e;
      alone = ap (λ b. cond b (as_keyword t ∷ []) (t ∷ [])) e;
      opening = (caper-brackets t e).0;
    }
    by false e = record {
      token = t;
      left = others;
      whole = ap (λ b. cond b (as_keyword t ∷ headed others) (t ∷ others)) e;
      alone = ap (λ b. cond b (as_keyword t ∷ []) (t ∷ [])) e;
      opening = refl;
    }
seen-next (f ∷ front) t others = by (is_caper f) refl
  where
    named : (fs : List Token) → Named t others fs
    named [] = (as_version t, seen_from false others, refl, refl, (version-brackets t).0)
    named (g ∷ fs) =
        let index = after false (seen_from false fs) in
        (seen index t, seen_from (is_before_index (class (seen index t))) others, refl, refl, (seen-brackets index t).0)

    by : (b : Bool) → is_caper f ≡ b → SeenNext (f ∷ front) t others
    by true e =
        let x = named front in record {
          token = x.0;
          left = x.1;
          whole = ap (λ b. cond b (behind_caper front (t ∷ others)) (t ∷ others)) e ∙ x.2;
          alone = ap (λ b. cond b (behind_caper front (t ∷ [])) (t ∷ [])) e ∙ x.3;
          opening = x.4;
        }
    by false e = record {
      token = t;
      left = others;
      whole = ap (λ b. cond b (behind_caper front (t ∷ others)) (t ∷ others)) e;
      alone = ap (λ b. cond b (behind_caper front (t ∷ [])) (t ∷ [])) e;
      opening = refl;
    }

-- the view of a front and one more token
pub seen-one-more : (front : List Token) (t : Token) (others : List Token) (x : SeenNext front t others)
    → worded (front ++ t ∷ []) ≡ worded front ++ x.token ∷ []
seen-one-more front t others x = worded-behind front (t ∷ []) ∙ ap (λ l. worded front ++ l) x.alone
