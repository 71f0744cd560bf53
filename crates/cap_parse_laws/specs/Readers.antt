-- Readers: what is read from the front of a list of tokens and what follows it, or where it goes wrong.
use Rattle.std.specs.Prelude.{ℕ, zero, suc, cond, not, Bool, true, false, List, [], ◌∷◌, length, Option, Some, None, Result, Ok, Err}
use Rattle.cap_syntax.specs.declared.place.Place.{Place}
use Rattle.cap_syntax.specs.declared.token.Token.{Token}
use Rattle.cap_parse_tree.specs.declared.word.Word.{Word}
use Rattle.cap_parse_tree.specs.declared.word.Literal.{Literal}
use Rattle.cap_parse_tree.specs.Tree.{Several, InParentheses, InBraces}
use Rattle.cap_parse_laws.specs.declared.class.Class.{Class}
use Rattle.cap_parse_laws.specs.declared.class.Class.TheVariants as c
use Rattle.cap_parse_laws.specs.Classes.{class, are_same}

-- The tokens from the one at fault on: one after which no text goes on so, or a bracket that opens while
-- as many as may are open.
pub data Fault : Type 0 where
  unexpected : List Token → Fault
  too_deep : List Token → Fault

abbrev pub Outcome : Type 0 → Type 0
Outcome A = Result (A × List Token) Fault

abbrev pub Reader : Type 0 → Type 0
Reader A = List Token → Outcome A

infixl 10 ◌>>=◌
abbrev pub ◌>>=◌ : {A B : Type 0} → Result A Fault → (A → Result B Fault) → Result B Fault
(Ok x) >>= f = f x
(Err e) >>= f = Err e

-- the class of the next token
abbrev pub ahead : List Token → Class
ahead [] = c.End
ahead (t ∷ ts) = class t

abbrev pub next_token : Reader Token
next_token [] = Err (unexpected [])
next_token (t ∷ ts) = Ok (t, ts)

abbrev pub next_place : Reader Place
next_place ts = do
  t ← next_token ts
  Ok (t.0.place, t.1)

abbrev pub word_of : Token → Word
word_of t = record { text = t.text; place = t.place }

abbrev pub next_word : Reader Word
next_word ts = do
  t ← next_token ts
  Ok (word_of t.0, t.1)

abbrev pub literal_of : Token → Literal
literal_of t = record { text = t.text; value = t.value; place = t.place }

abbrev pub next_literal : Reader Literal
next_literal ts = do
  t ← next_token ts
  Ok (literal_of t.0, t.1)

-- a token of this class
abbrev pub expect : Class → Reader Place
expect k ts = cond (are_same k (ahead ts)) (next_place ts) (Err (unexpected ts))

abbrev pub read_name : Reader Word
read_name ts = cond (are_same c.Name (ahead ts)) (next_word ts) (Err (unexpected ts))

abbrev pub read_number : Reader Literal
read_number ts = cond (are_same c.Number (ahead ts)) (next_literal ts) (Err (unexpected ts))

-- a bracket of this class where no more may open
abbrev pub no_room : {A : Type 0} → Class → Reader A
no_room k ts = cond (are_same k (ahead ts)) (Err (too_deep ts)) (Err (unexpected ts))

-- a bracket of this class where so many may open; how many may open in it, and its place
abbrev pub read_opening : ℕ → Class → Reader (ℕ × Place)
read_opening zero k ts = no_room k ts
read_opening (suc room) k ts = do
  p ← expect k ts
  Ok ((room, p.0), p.1)

-- a part that is there where such a token comes next
abbrev pub read_optional : {A : Type 0} → (Class → Bool) → Reader A → Reader (Option A)
read_optional begins one ts =
    cond (begins (ahead ts)) (one ts >>= λ a. Ok (Some a.0, a.1)) (Ok (None, ts))

-- parts for as long as such a token comes next, so many at most
abbrev pub read_at_most : {A : Type 0} → (Class → Bool) → Reader A → ℕ → Reader (List A)
read_at_most begins one zero ts = cond (begins (ahead ts)) (Err (unexpected ts)) (Ok ([], ts))
read_at_most begins one (suc n) ts =
    cond (begins (ahead ts))
    (one ts >>= λ a. read_at_most begins one n a.1 >>= λ more. Ok (a.0 ∷ more.0, more.1))
    (Ok ([], ts))

-- parts for as long as such a token comes next; each takes a token, so the length is enough
abbrev pub read_while : {A : Type 0} → (Class → Bool) → Reader A → Reader (List A)
read_while begins one ts = read_at_most begins one (length ts) ts

abbrev pub read_until : {A : Type 0} → Class → Reader A → Reader (List A)
read_until k = read_while (λ a. not (are_same k a))

-- a part behind its separator
abbrev pub read_behind : {A : Type 0} → Class → Reader A → Reader (Place × A)
read_behind k one ts = do
  p ← expect k ts
  a ← one p.1
  Ok ((p.0, a.0), a.1)

abbrev pub read_more : {A : Type 0} → Class → Reader A → Reader (List (Place × A))
read_more k one = read_while (are_same k) (read_behind k one)

abbrev pub read_several : {A : Type 0} → Class → Reader A → Reader (Several A)
read_several k one ts = do
  a ← one ts
  more ← read_more k one a.1
  Ok (record { first = a.0; more = more.0 }, more.1)

-- parts in parentheses, with commas between them; the reader of a part is told how many brackets may
-- open in them
abbrev pub read_listed : {A : Type 0} → ℕ → (ℕ → Reader A) → Reader (InParentheses A)
read_listed room one ts = do
  o ← read_opening room c.Open ts
  parts ← read_optional (λ a. not (are_same c.Close a)) (read_several c.Comma (one o.0.0)) o.1
  q ← expect c.Close parts.1
  Ok (record { before = o.0.1; parts = parts.0; behind = q.0 }, q.1)

-- parts in braces, behind their keyword
abbrev pub read_group : {A : Type 0} → ℕ → Class → (ℕ → Reader A) → Reader (InBraces A)
read_group room k one ts = do
  key ← expect k ts
  o ← read_opening room c.OpenBrace key.1
  parts ← read_until c.CloseBrace (one o.0.0) o.1
  q ← expect c.CloseBrace parts.1
  Ok (record { key = key.0; before = o.0.1; parts = parts.0; behind = q.0 }, q.1)
