-- Which bytes spell a token, and of which kind.
use Rattle.std.specs.Prelude.{◌≡◌, ℕ, ◌+◌, ◌-◌, ◌*◌, ◌<◌, ◌≤◌, Bool, false, not, ◌&&◌, ◌||◌, ◌==◌, List, [], ◌∷◌, length, take, fold, codes, IsTrue}
use Rattle.std.specs.Char.{is_ascii_alphabetic, is_ascii_digit}
use Rattle.std.specs.List.{list_any, list_all}
use Rattle.std.specs.Str.{bytes_eq}
use Rattle.cap_syntax.specs.declared.token.TokenKind.{TokenKind}
use Rattle.cap_syntax.specs.declared.token.TokenKind.TheVariants.{Name, Keyword, Number, Share, Wildcard, Symbol, End}

-- a letter, a digit or `_`
abbrev pub is_word_byte : ℕ → Bool
is_word_byte b = is_ascii_alphabetic b || is_ascii_digit b || b == 95

-- a letter, then letters, digits and `_`
abbrev pub is_word : List ℕ → Bool
is_word [] = false
is_word (b ∷ bs) = is_ascii_alphabetic b && list_all is_word_byte bs

-- digits, at least one
abbrev pub is_number : List ℕ → Bool
is_number [] = false
is_number (b ∷ bs) = list_all is_ascii_digit (b ∷ bs)

unfoldable pub keywords : List (List ℕ)
keywords =
    codes "region" ∷ codes "function" ∷ codes "requires" ∷ codes "ensures" ∷ codes "guards"
    ∷ codes "interpretation" ∷ codes "actions" ∷ codes "when" ∷ codes "fork" ∷ codes "if"
    ∷ codes "else" ∷ codes "while" ∷ codes "invariant" ∷ codes "assert" ∷ codes "return"
    ∷ codes "alloc" ∷ codes "CAS" ∷ codes "true" ∷ codes "false" ∷ codes "src" ∷ codes "tok" ∷ []

unfoldable pub symbols : List (List ℕ)
symbols =
    codes "(" ∷ codes ")" ∷ codes "{" ∷ codes "}" ∷ codes "[" ∷ codes "]" ∷ codes "," ∷ codes ";"
    ∷ codes ":" ∷ codes ":=" ∷ codes "=" ∷ codes "!=" ∷ codes "<" ∷ codes "<=" ∷ codes ">"
    ∷ codes ">=" ∷ codes "+" ∷ codes "-" ∷ codes "*" ∷ codes "%" ∷ codes "@" ∷ codes "?"
    ∷ codes "|" ∷ codes "|->" ∷ codes "&*&" ∷ codes "~>" ∷ []

abbrev pub is_one_of : List (List ℕ) → List ℕ → Bool
is_one_of words text = list_any (λ word. bytes_eq word text) words

-- the text spells a token of this kind; the end of the text has no spelling
abbrev pub spells : TokenKind → List ℕ → Bool
spells Name text = is_word text && not (is_one_of keywords text)
spells Keyword text = is_one_of keywords text
spells Number text = is_number text
spells Share text = bytes_eq (codes "1p") text
spells Wildcard text = bytes_eq (codes "_") text
spells Symbol text = is_one_of symbols text
spells End text = false

-- the first n bytes spell a token of this kind, and no more bytes at the front spell any
pub record IsLongest (kind : TokenKind) (n : ℕ) (rest : List ℕ) : Type 0 where
  pub within : n ≤ length rest
  pub spelled : IsTrue (spells kind (take n rest))
  pub longest : (k : TokenKind) (m : ℕ) → n < m → m ≤ length rest → spells k (take m rest) ≡ false

-- no bytes at the front spell a token
abbrev pub StartsNone : List ℕ → Type 0
StartsNone rest = (k : TokenKind) (m : ℕ) → m ≤ length rest → spells k (take m rest) ≡ false

-- the number that digits spell
abbrev pub number_of : List ℕ → ℕ
number_of digits = fold (λ n digit. 10 * n + (digit - 48)) 0 digits

-- what a token counts: its number, or nothing
abbrev pub value_of : TokenKind → List ℕ → ℕ
value_of Number text = number_of text
value_of _ text = 0

-- the greatest number that a literal may spell
abbrev pub max_literal : ℕ
max_literal = 9223372036854775807

-- A byte that may not directly follow a token of this kind. A byte that would be part of the token,
-- as a digit behind a number or a letter behind a name, never follows it.
abbrev pub is_barred : TokenKind → ℕ → Bool
is_barred Number b = is_ascii_alphabetic b || b == 95
is_barred Share b = is_word_byte b
is_barred Wildcard b = is_word_byte b
is_barred _ b = false

abbrev pub begins_barred : TokenKind → List ℕ → Bool
begins_barred kind [] = false
begins_barred kind (b ∷ bs) = is_barred kind b
