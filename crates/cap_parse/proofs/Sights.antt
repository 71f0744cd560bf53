-- What is seen from a spot on is the first token as it is seen there, and the rest.
use Rattle.std.proofs.Common.{◌≡◌, ◌<◌, ◌-◌, cond, Bool, true, false, List, [], ◌∷◌, length, take, drop, get_or, Ok, arith, refl, sym, ap, ◌∙◌}
use Rattle.cap_syntax.specs.declared.place.Place.{Place}
use Rattle.cap_syntax.specs.declared.token.Token.{Token}
use Rattle.cap_parse_laws.specs.Classes.{class}
use Rattle.cap_parse_laws.specs.Readers.{ahead, next_token}
use Rattle.cap_parse_laws.specs.Versions.{is_caper, is_before_index, as_keyword, seen_from, headed, after, behind_caper, behind}
use Rattle.cap_parse.specs.declared.seen.Spot.{Spot}
use Rattle.cap_parse.specs.declared.seen.Spot.TheVariants.{Start, Version, Index, Later, Old}
use Rattle.cap_parse.specs.Parsing.{first_place}
use Rattle.cap_parse.specs.Sights.{is_keyword_at, seen_at, spot_behind, seen_from_spot}

from-index : (b : Bool) (ts : List Token) → seen_from b ts ≡ seen_from_spot (cond b Index Later) ts
from-index true ts = refl
from-index false ts = refl

pub seen_first : (spot : Spot) (t : Token) (ts : List Token)
    → seen_from_spot spot (t ∷ ts) ≡ seen_at spot t ∷ seen_from_spot (spot_behind spot t) ts
seen_first Start t ts = by (is_caper t)
  where
    by : (b : Bool)
        → cond b (as_keyword t ∷ headed ts) (t ∷ ts)
        ≡ cond b (as_keyword t) t ∷ seen_from_spot (cond b Version Old) ts
    by true = refl
    by false = refl
seen_first Version t ts = refl
seen_first Index t ts =
    ap (λ l. seen_at Index t ∷ l) (from-index (is_before_index (class (seen_at Index t))) ts)
seen_first Later t ts =
    ap (λ l. seen_at Later t ∷ l) (from-index (is_before_index (class (seen_at Later t))) ts)
seen_first Old t ts = refl

-- the first token's class, and the first token in front of the rest, of a list that is not empty

pub ahead_seen : (spot : Spot) (ts view : List Token) (t : Token) → seen_from_spot spot ts ≡ view
    → 0 < length ts → t ≡ get_or ts 0 t → class (seen_at spot t) ≡ ahead view
ahead_seen spot [] view t h l e = absurd (omega (arith, l))
ahead_seen spot (u ∷ us) view t h l e =
    ap (λ x. class (seen_at spot x)) e ∙ sym (ap ahead (seen_first spot u us)) ∙ ap ahead h

take-all : (us : List Token) → take (length us) us ≡ us
take-all [] = refl
take-all (u ∷ us) = ap (λ l. u ∷ l) (take-all us)

one-less : (u : Token) (us : List Token) → length (u ∷ us) - 1 ≡ length us
one-less u us = omega arith

pub next_seen : (spot next : Spot) (ts view : List Token) (t sight : Token)
    → seen_from_spot spot ts ≡ view → 0 < length ts → t ≡ get_or ts 0 t → sight ≡ seen_at spot t
    → next ≡ spot_behind spot t
    → next_token view ≡ Ok (sight, seen_from_spot next (take (length ts - 1) (drop 1 ts)))
next_seen spot next [] view t sight h l e s n = absurd (omega (arith, l))
next_seen spot next (u ∷ us) view t sight h l e s n =
    sym (ap next_token h) ∙ ap next_token (seen_first spot u us)
    ∙ ap (λ x. Ok (seen_at spot x, seen_from_spot (spot_behind spot x) us)) (sym e)
    ∙ ap (λ x. Ok (x, seen_from_spot (spot_behind spot t) us)) (sym s)
    ∙ ap (λ x. Ok (sight, seen_from_spot x us)) (sym n)
    ∙ ap (λ l. Ok (sight, seen_from_spot next l)) (sym (ap (λ k. take k us) (one-less u us) ∙ take-all us))

seen-place : (b : Bool) (t : Token) → (cond b (as_keyword t) t).place ≡ t.place
seen-place true t = refl
seen-place false t = refl

-- a token is seen where it stands

pub same_first_place : (spot : Spot) (ts : List Token) (end : Place)
    → first_place (seen_from_spot spot ts) end ≡ first_place ts end
same_first_place Start [] end = refl
same_first_place Version [] end = refl
same_first_place Index [] end = refl
same_first_place Later [] end = refl
same_first_place Old [] end = refl
same_first_place spot (t ∷ ts) end =
    ap (λ l. first_place l end) (seen_first spot t ts) ∙ seen-place (is_keyword_at spot t) t

-- where the tokens behind a front are seen from
behind-spot : (front rest : List Token) → (spot : Spot) × (behind front rest ≡ seen_from_spot spot rest)
behind-spot [] rest = (Start, refl)
behind-spot (t ∷ front) rest = by (is_caper t)
  where
    named : (fs : List Token) → (spot : Spot) × (behind_caper fs rest ≡ seen_from_spot spot rest)
    named [] = (Version, refl)
    named (f ∷ fs) =
        let index = after false (seen_from false fs) in (cond index Index Later, from-index index rest)

    by : (b : Bool) → (spot : Spot) × (cond b (behind_caper front rest) rest ≡ seen_from_spot spot rest)
    by true = named front
    by false = (Old, refl)

pub behind-place : (front rest : List Token) (end : Place)
    → first_place (behind front rest) end ≡ first_place rest end
behind-place front rest end =
    let x = behind-spot front rest in
    ap (λ l. first_place l end) x.1 ∙ same_first_place x.0 rest end
