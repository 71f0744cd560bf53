-- Which tokens and bytes are the text of a tree, of either version, and where they go wrong.
use Rattle.std.specs.Prelude.{◌≡◌, ℕ, ◌≤◌, true, List, [], ◌∷◌, ◌++◌, length, map, Some, IsSome}
use Rattle.cap_syntax.specs.declared.token.Token.{Token}
use Rattle.cap_syntax.specs.Layout.{end_of, AreTokensOf}
use Rattle.cap_syntax.specs.Printing.{unplaced}
use Rattle.cap_syntax.specs.Refusal.{max_text}
use Rattle.cap_parse_tree.specs.Tree.{ProgramTree}
use Rattle.cap_parse_tree.specs.Spelling.{spelling}
use Rattle.cap_parse_tree.specs.Nesting.{max_nesting, room_left, opens, Nests}
use Rattle.cap_parse_laws.specs.Versions.{worded}

-- the bytes spell the tree: their tokens before the end are seen as its own, places included
pub record Spells (bytes : List ℕ) (t : ProgramTree) : Type 0 where
  pub fits : length bytes ≤ max_text
  pub tokens : List Token
  pub are : AreTokensOf bytes (tokens ++ end_of bytes ∷ [])
  pub seen_as : worded tokens ≡ spelling t
  pub nests : Nests t

-- some text's tokens begin with these
pub record BeginsText (front : List Token) : Type 0 where
  pub tree : ProgramTree
  pub others : List Token
  pub spelled : worded (front ++ others) ≡ spelling tree

-- The first token of the rest, or where there is none the end, is unexpected: the tokens before it
-- begin a text and nest, and with it they begin none, or at the end are none.
pub record IsUnexpectedAt (ts rest : List Token) : Type 0 where
  pub front : List Token
  pub whole : ts ≡ front ++ rest
  pub begun : BeginsText front
  pub nested : IsSome (room_left max_nesting front)
  pub wrong : (t : Token) (others : List Token) → rest ≡ t ∷ others → BeginsText (front ++ t ∷ []) → ⊥
  pub ended : rest ≡ [] → (tree : ProgramTree) → worded front ≡ spelling tree → ⊥

-- The first token of the rest is a bracket that opens while as many as may are open, and some text
-- goes on so.
pub record IsTooDeepAt (ts rest : List Token) : Type 0 where
  pub front : List Token
  pub bracket : Token
  pub others : List Token
  pub whole : ts ≡ front ++ rest
  pub first : rest ≡ bracket ∷ others
  pub opened : opens bracket ≡ true
  pub full : room_left max_nesting front ≡ Some 0
  pub begun : BeginsText (front ++ bracket ∷ [])

-- two trees are the same apart from the places of their tokens
abbrev pub AreSameApartFromPlaces : ProgramTree → ProgramTree → Type 0
AreSameApartFromPlaces t u = map unplaced (spelling t) ≡ map unplaced (spelling u)
