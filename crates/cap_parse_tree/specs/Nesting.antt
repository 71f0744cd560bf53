-- The limit on nesting: at most 64 brackets are open at once, parentheses, brackets and braces alike.
use Rattle.std.specs.Prelude.{ℕ, zero, suc, List, [], ◌∷◌, Bool, true, false, ◌||◌, ◌&&◌, cond, Option, Some, None, IsSome, codes}
use Rattle.std.specs.Str.{bytes_eq}
use Rattle.cap_syntax.specs.declared.token.Token.{Token}
use Rattle.cap_syntax.specs.declared.token.TokenKind.{TokenKind}
use Rattle.cap_syntax.specs.declared.token.TokenKind.TheVariants.{Keyword, Symbol}
use Rattle.cap_parse_tree.specs.Tree.{ProgramTree}
use Rattle.cap_parse_tree.specs.Spelling.{spelling}

abbrev pub is_symbol : TokenKind → Bool
is_symbol Symbol = true
is_symbol _ = false

abbrev pub is_keyword : TokenKind → Bool
is_keyword Keyword = true
is_keyword _ = false

-- the `[` of an indexed guard's declaration is seen as a keyword
abbrev pub opens_index : Token → Bool
opens_index t = is_keyword t.kind && bytes_eq t.text (codes "[")

abbrev pub opens : Token → Bool
opens t =
    opens_index t || is_symbol t.kind && (bytes_eq t.text (codes "(") || bytes_eq t.text (codes "[")
    || bytes_eq t.text (codes "{"))

abbrev pub closes : Token → Bool
closes t =
    is_symbol t.kind && (bytes_eq t.text (codes ")") || bytes_eq t.text (codes "]")
    || bytes_eq t.text (codes "}"))

-- how many brackets may be open at once
unfoldable pub max_nesting : ℕ
max_nesting = 64

-- one bracket fewer may open, unless none may
abbrev pub one_fewer : ℕ → Option ℕ
one_fewer zero = None
one_fewer (suc room) = Some room

-- how many more brackets may open behind the token, where so many may before it; none where it opens
-- one too many
abbrev pub room_behind : ℕ → Token → Option ℕ
room_behind room t = cond (opens t) (one_fewer room) (cond (closes t) (Some (suc room)) (Some room))

abbrev pub onwards : Option ℕ → (ℕ → Option ℕ) → Option ℕ
onwards None f = None
onwards (Some room) f = f room

-- the same behind several tokens
abbrev pub room_left : ℕ → List Token → Option ℕ
room_left room [] = Some room
room_left room (t ∷ ts) = onwards (room_behind room t) (λ left. room_left left ts)

-- in the tree's text no bracket opens while as many as may are open
abbrev pub Nests : ProgramTree → Type 0
Nests t = IsSome (room_left max_nesting (spelling t))
