-- The canonical text of a tree.
use Rattle.std.specs.Prelude.{ℕ, zero, suc, List, [], ◌∷◌, ◌++◌, Bool, true, false, ◌||◌, ◌&&◌, cond, codes}
use Rattle.std.specs.Str.{bytes_eq}
use Rattle.cap_syntax.specs.declared.token.Token.{Token}
use Rattle.cap_parse_tree.specs.Tree.{ProgramTree}
use Rattle.cap_parse_tree.specs.Spelling.{spelling}
use Rattle.cap_parse_tree.specs.Nesting.{is_symbol}

abbrev pub is_the_symbol : List ℕ → Token → Bool
is_the_symbol text t = is_symbol t.kind && bytes_eq t.text text

-- `{`, `}` and `;`
abbrev pub may_end_line : Token → Bool
may_end_line t =
    is_the_symbol (codes "{") t || is_the_symbol (codes "}") t || is_the_symbol (codes ";") t

abbrev pub one_less : ℕ → ℕ
one_less zero = zero
one_less (suc n) = n

-- how many parentheses are open behind the token, where so many are before it
abbrev pub parentheses_behind : ℕ → Token → ℕ
parentheses_behind n t =
    cond (is_the_symbol (codes "(") t) (suc n) (cond (is_the_symbol (codes ")") t) (one_less n) n)

abbrev pub is_zero : ℕ → Bool
is_zero zero = true
is_zero (suc n) = false

-- a space between two tokens, none behind the last
abbrev pub space_before : List Token → List ℕ
space_before [] = []
space_before (t ∷ ts) = 32 ∷ []

-- Behind each `{`, `}` and `;` that stands in no parentheses comes a line feed, and a space behind
-- each other token but the last.
abbrev pub gap_behind : ℕ → Token → List Token → List ℕ
gap_behind n t rest = cond (is_zero n && may_end_line t) (10 ∷ []) (space_before rest)

-- these tokens behind as many open parentheses
abbrev pub canonical_from : ℕ → List Token → List ℕ
canonical_from n [] = []
canonical_from n (t ∷ ts) =
    t.text ++ (gap_behind n t ts ++ canonical_from (parentheses_behind n t) ts)

abbrev pub canonical_text : ProgramTree → List ℕ
canonical_text t = canonical_from 0 (spelling t)
