-- The parser's loops: what was read, in front of what is read of the rest, is what is read of all.
use Rattle.std.proofs.Common.{◌≡◌, ◌<◌, ◌++◌, Bool, true, List, [], ◌∷◌, length, map, Ok, Err, refl, sym, ap, ◌∙◌}
use Rattle.std.proofs.lemmas.List.{map_push}
use Rattle.cap_syntax.specs.declared.place.Place.{Place}
use Rattle.cap_syntax.specs.declared.token.Token.{Token}
use Rattle.cap_parse_laws.specs.declared.class.Class.{Class}
use Rattle.cap_parse_laws.specs.Classes.{are_same}
use Rattle.cap_parse_laws.specs.Readers.{unexpected, too_deep, Outcome, Reader, ahead, next_place, read_while, read_behind, read_more}
use Rattle.cap_parse_laws.specs.Laws.Taking.{Takes, Ends, takes-keeps, behind-takes, while-taken, while-refused, with_front}
use Rattle.cap_parse.specs.declared.cursor.Stop.{Stop}
use Rattle.cap_parse.specs.declared.cursor.Stop.TheVariants.{Unexpected, TooDeep, OutOfMemory}
use Rattle.cap_parse.specs.Reads.{IsRead}

-- a separator and a part behind it
behind-read : {A : Type 0} (k : Class) (one : Reader A) (all mid rest : List Token) (p : Place) (a : A)
    → are_same k (ahead all) ≡ true → next_place all ≡ Ok (p, mid) → one mid ≡ Ok (a, rest)
    → read_behind k one all ≡ Ok ((p, a), rest)
behind-read k one all mid rest p a b e f = rw (b, e, f) refl

pub while-pushed : {X A : Type 0} (begins : Class → Bool) (one : Reader A) (view : X → A) (takes : Takes one)
    (ends : Ends begins one) (items : List X) (x : X) (all rest : List Token) (whole : Outcome (List A))
    → begins (ahead all) ≡ true → one all ≡ Ok (view x, rest)
    → with_front (map view items) (read_while begins one all) ≡ whole
    → with_front (map view (items ++ x ∷ [])) (read_while begins one rest) ≡ whole
while-pushed begins one view takes ends items x all rest whole b e w =
    ap (λ l. with_front l (read_while begins one rest)) (map_push view items x)
    ∙ while-taken begins one takes ends (map view items) all (view x) rest b e
    ∙ w

pub more-pushed : {X A : Type 0} (k : Class) (one : Reader A) (view : X → Place × A) (takes : Takes one)
    (ends : Ends (are_same k) (read_behind k one)) (items : List X) (x : X) (p : Place) (a : A)
    (all mid rest : List Token) (whole : Outcome (List (Place × A)))
    → view x ≡ (p, a) → are_same k (ahead all) ≡ true → next_place all ≡ Ok (p, mid) → one mid ≡ Ok (a, rest)
    → with_front (map view items) (read_more k one all) ≡ whole
    → with_front (map view (items ++ x ∷ [])) (read_more k one rest) ≡ whole
more-pushed k one view takes ends items x p a all mid rest whole v b e f w =
    while-pushed (are_same k) (read_behind k one) view (behind-takes k one (takes-keeps one takes)) ends items x all rest whole b
    (behind-read k one all mid rest p a b e f ∙ ap (λ y. Ok (y, rest)) (sym v)) w

pub more-smaller : {A : Type 0} (k : Class) (one : Reader A) → Takes one → (all mid rest : List Token) (p : Place) (a : A)
    → are_same k (ahead all) ≡ true → next_place all ≡ Ok (p, mid) → one mid ≡ Ok (a, rest)
    → length rest < length all
more-smaller k one takes all mid rest p a b e f =
    (behind-takes k one (takes-keeps one takes) all).fewer (p, a) rest (behind-read k one all mid rest p a b e f)

-- a part was refused
pub while-refuses : {X Y A : Type 0} (begins : Class → Bool) (one : Reader A) (view : X → A) (all_view : Y → List A) (takes : Takes one)
    (ends : Ends begins one) (front : List A) (all rest : List Token) (whole : Outcome (List A)) (e : Stop)
    → begins (ahead all) ≡ true → IsRead view (Err e) rest (one all)
    → with_front front (read_while begins one all) ≡ whole → IsRead all_view (Err e) rest whole
while-refuses begins one view all_view takes ends front all rest whole Unexpected b h w =
    sym w ∙ ap (with_front front) (while-refused begins one takes ends all (unexpected rest) b h)
while-refuses begins one view all_view takes ends front all rest whole TooDeep b h w =
    sym w ∙ ap (with_front front) (while-refused begins one takes ends all (too_deep rest) b h)
while-refuses begins one view all_view takes ends front all rest whole OutOfMemory b h w = tt
