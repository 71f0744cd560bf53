-- How the grammar sees the tokens of a text. A text whose first token is the name `caper` is of the
-- second version: some of its tokens are seen as keywords. A text of the first is seen as it is.
use Rattle.std.specs.Prelude.{ℕ, ◌==◌, cond, List, [], ◌∷◌, Bool, true, false, ◌&&◌, ◌||◌, codes}
use Rattle.std.specs.Str.{bytes_eq}
use Rattle.cap_syntax.specs.declared.token.Token.{Token}
use Rattle.cap_parse_tree.specs.Tokens.{keyword}
use Rattle.cap_parse_laws.specs.declared.class.Class.{Class}
use Rattle.cap_parse_laws.specs.declared.class.Class.TheVariants as c
use Rattle.cap_parse_laws.specs.Classes.{class, are_same}

-- a text is of the second version where its first token is this name
abbrev pub is_caper : Token → Bool
is_caper t = are_same c.Name (class t) && bytes_eq t.text (codes "caper")

-- the number 2, spelled so
abbrev pub is_two : Token → Bool
is_two t = are_same c.Number (class t) && (bytes_eq t.text (codes "2") && t.value == 2)

-- the words that are no names in a text of the second version
abbrev pub is_word : List ℕ → Bool
is_word text =
    bytes_eq text (codes "FAA") || (bytes_eq text (codes "dispose")
    || (bytes_eq text (codes "at") || bytes_eq text (codes "from")))

-- A token behind which a guard is declared, where it is declared at all: a `[` right behind it is that
-- of an indexed guard.
abbrev pub is_before_index : Class → Bool
is_before_index c.Star = true
is_before_index c.Plus = true
is_before_index c.Open = true
is_before_index c.Guards = true
is_before_index k = false

abbrev pub as_keyword : Token → Token
as_keyword t = keyword t.text t.place

-- the token behind `caper`
abbrev pub as_version : Token → Token
as_version t = cond (is_two t) (as_keyword t) t

-- a later token, behind one of those or not
abbrev pub seen : Bool → Token → Token
seen index t =
    cond
    ((index && are_same c.OpenBracket (class t)) || (are_same c.Name (class t) && is_word t.text))
    (as_keyword t) t

abbrev pub seen_from : Bool → List Token → List Token
seen_from index [] = []
seen_from index (t ∷ ts) = seen index t ∷ seen_from (is_before_index (class (seen index t))) ts

-- behind `caper`
abbrev pub headed : List Token → List Token
headed [] = []
headed (t ∷ ts) = as_version t ∷ seen_from false ts

-- the tokens of a text, as the grammar sees them
abbrev pub worded : List Token → List Token
worded [] = []
worded (t ∷ ts) = cond (is_caper t) (as_keyword t ∷ headed ts) (t ∷ ts)

-- whether a `[` behind these, as seen, is that of an indexed guard
abbrev pub after : Bool → List Token → Bool
after index [] = index
after index (t ∷ ts) = after (is_before_index (class t)) ts

abbrev pub behind_caper : List Token → List Token → List Token
behind_caper [] rest = headed rest
behind_caper (t ∷ ts) rest = seen_from (after false (seen_from false ts)) rest

-- how the rest of a text is seen behind its front
abbrev pub behind : List Token → List Token → List Token
behind [] rest = worded rest
behind (t ∷ front) rest = cond (is_caper t) (behind_caper front rest) rest
