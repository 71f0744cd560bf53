-- A text is seen as as many tokens as it has.
use Rattle.std.proofs.Common.{◌≡◌, cond, suc, length, Bool, true, false, List, [], ◌∷◌, refl, ap}
use Rattle.cap_syntax.specs.declared.token.Token.{Token}
use Rattle.cap_parse_laws.specs.Classes.{class}
use Rattle.cap_parse_laws.specs.Versions.{is_caper, is_before_index, as_keyword, seen, seen_from, headed, worded}

from-length : (index : Bool) (ts : List Token) → length (seen_from index ts) ≡ length ts
from-length index [] = refl
from-length index (t ∷ ts) = ap suc (from-length (is_before_index (class (seen index t))) ts)

headed-length : (ts : List Token) → length (headed ts) ≡ length ts
headed-length [] = refl
headed-length (t ∷ ts) = ap suc (from-length false ts)

pub worded-length : (ts : List Token) → length (worded ts) ≡ length ts
worded-length [] = refl
worded-length (t ∷ ts) = by (is_caper t)
  where
    by : (b : Bool) → length (cond b (as_keyword t ∷ headed ts) (t ∷ ts)) ≡ length (t ∷ ts)
    by true = ap suc (headed-length ts)
    by false = refl
