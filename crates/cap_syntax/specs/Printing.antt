-- A text of given tokens.
use Rattle.std.specs.Prelude.{◌≡◌, ℕ, ◌<◌, ◌≤◌, List, [], ◌∷◌, ◌++◌, length, map, IsTrue}
use Rattle.std.specs.List.{list_all}
use Rattle.cap_syntax.specs.declared.token.Token.{Token}
use Rattle.cap_syntax.specs.declared.token.TokenKind.{TokenKind}
use Rattle.cap_syntax.specs.Spelling.{spells, value_of, max_literal}
use Rattle.cap_syntax.specs.Layout.{is_blank, end_of, AreTokensOf}

-- the token's text spells its kind and its value
pub record IsSpelled (t : Token) : Type 0 where
  pub spelled : IsTrue (spells t.kind t.text)
  pub value : t.value ≡ value_of t.kind t.text
  pub small : t.value ≤ max_literal

-- tokens, each with what is printed behind it
abbrev pub tokens_in : List (Token × List ℕ) → List Token
tokens_in pieces = map (λ piece. piece.0) pieces

abbrev pub printed : List (Token × List ℕ) → List ℕ
printed [] = []
printed (piece ∷ pieces) = piece.0.text ++ (piece.1 ++ printed pieces)

-- blanks are printed behind each token, and at least one where a further token comes
abbrev pub AreSpaced : List (Token × List ℕ) → Type 0
AreSpaced [] = Unit {0}
AreSpaced (piece ∷ []) = IsTrue (list_all is_blank piece.1)
AreSpaced (piece ∷ next ∷ pieces) =
    (0 < length piece.1) × IsTrue (list_all is_blank piece.1) × AreSpaced (next ∷ pieces)

-- a token apart from its place
abbrev pub unplaced : Token → TokenKind × List ℕ × ℕ
unplaced t = (t.kind, t.text, t.value)

-- the tokens of the text are these apart from their places, and then its end
pub record ReadsAs (bytes : List ℕ) (ts : List Token) : Type 0 where
  pub again : List Token
  pub read : AreTokensOf bytes (again ++ end_of bytes ∷ [])
  pub same : map unplaced again ≡ map unplaced ts
