-- Which tokens, as the grammar sees them, begin a tree's, and where they go wrong.
use Rattle.std.specs.Prelude.{◌≡◌, true, List, [], ◌∷◌, ◌++◌, Some, IsSome}
use Rattle.cap_syntax.specs.declared.token.Token.{Token}
use Rattle.cap_parse_tree.specs.Tree.{ProgramTree}
use Rattle.cap_parse_tree.specs.Spelling.{spelling}
use Rattle.cap_parse_tree.specs.Nesting.{max_nesting, room_left, opens}

-- some tree's tokens begin with these
pub record BeginsTree (front : List Token) : Type 0 where
  pub tree : ProgramTree
  pub others : List Token
  pub spelled : spelling tree ≡ front ++ others

-- the first token of the rest, or its end, is unexpected
pub record IsSeenUnexpected (ts rest : List Token) : Type 0 where
  pub front : List Token
  pub whole : ts ≡ front ++ rest
  pub begun : BeginsTree front
  pub nested : IsSome (room_left max_nesting front)
  pub wrong : (t : Token) (others : List Token) → rest ≡ t ∷ others → BeginsTree (front ++ t ∷ []) → ⊥
  pub ended : rest ≡ [] → (tree : ProgramTree) → spelling tree ≡ front → ⊥

-- the first token of the rest opens one bracket too many
pub record IsSeenTooDeep (ts rest : List Token) : Type 0 where
  pub front : List Token
  pub bracket : Token
  pub others : List Token
  pub whole : ts ≡ front ++ rest
  pub first : rest ≡ bracket ∷ others
  pub opened : opens bracket ≡ true
  pub full : room_left max_nesting front ≡ Some 0
  pub begun : BeginsTree (front ++ bracket ∷ [])
