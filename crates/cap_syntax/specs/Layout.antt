-- The tokens of a text.
use Rattle.std.specs.Prelude.{◌≡◌, ◌≢◌, ℕ, ◌≤◌, Bool, false, ◌||◌, ◌==◌, if◌then◌else◌, List, [], ◌∷◌, ◌++◌, length, take, drop, All, codes}
use Rattle.std.specs.Str.{bytes_eq}
use Rattle.cap_syntax.specs.declared.place.Place.{Place}
use Rattle.cap_syntax.specs.declared.token.Token.{Token}
use Rattle.cap_syntax.specs.declared.token.TokenKind.TheVariants.{End}
use Rattle.cap_syntax.specs.Spelling.{IsLongest, value_of, max_literal, begins_barred}
use Rattle.cap_syntax.specs.Place.{place_of}

-- a space, a tab, a line feed or a carriage return
abbrev pub is_blank : ℕ → Bool
is_blank b = b == 32 || b == 9 || b == 10 || b == 13

-- a comment begins with two slashes
abbrev pub begins_comment : List ℕ → Bool
begins_comment rest = bytes_eq (codes "//") (take 2 rest)

-- What is left of the text behind the blanks and comments at its front. A comment goes on to the end
-- of its line.
unfoldable mutual
  pub past_gap : List ℕ → List ℕ
  past_gap [] = []
  past_gap (b ∷ bs) =
      if begins_comment (b ∷ bs) then past_comment bs
      else (if is_blank b then past_gap bs
      else b ∷ bs)

  pub past_comment : List ℕ → List ℕ
  past_comment [] = []
  past_comment (b ∷ bs) = if b == 10 then past_gap bs else past_comment bs

-- at this place, with this rest of the text, stands this token
pub record IsTokenAt (place : Place) (rest : List ℕ) (t : Token) : Type 0 where
  pub text : t.text ≡ take (length t.text) rest
  pub longest : IsLongest t.kind (length t.text) rest
  pub apart : begins_barred t.kind (drop (length t.text) rest) ≡ false
  pub value : t.value ≡ value_of t.kind t.text
  pub small : t.value ≤ max_literal
  pub at : t.place ≡ place

-- From this rest of the text on there are these tokens, each behind blanks and comments, and behind
-- further ones a later rest.
abbrev pub Reads : List ℕ → List ℕ → List Token → List ℕ → Type 0
Reads bytes from [] rest = past_gap from ≡ rest
Reads bytes from (t ∷ ts) rest =
    IsTokenAt (place_of bytes (past_gap from)) (past_gap from) t
    × Reads bytes (drop (length t.text) (past_gap from)) ts rest

-- the token behind the last byte
abbrev pub end_of : List ℕ → Token
end_of bytes = record { kind = End; text = []; value = 0; place = place_of bytes [] }

-- the tokens of the text, and then its end
pub record AreTokensOf (bytes : List ℕ) (all : List Token) : Type 0 where
  pub front : List Token
  pub whole : all ≡ front ++ end_of bytes ∷ []
  pub read : Reads bytes bytes front []

-- the last token, and no other, is the end of the text
pub record EndsOnce (all : List Token) : Type 0 where
  pub front : List Token
  pub last : Token
  pub whole : all ≡ front ++ last ∷ []
  pub ended : last.kind ≡ End
  pub no_earlier : All (λ t. t.kind ≢ End) front
