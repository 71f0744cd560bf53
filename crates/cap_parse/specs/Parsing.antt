-- What parsing tokens answers: the tree that they spell, or where they go wrong.
use Rattle.std.specs.Prelude.{◌≡◌, List, [], ◌∷◌, Result, Ok, Err}
use Rattle.cap_syntax.specs.declared.place.Place.{Place}
use Rattle.cap_syntax.specs.declared.token.Token.{Token}
use Rattle.cap_parse_tree.specs.declared.tree.Tree.{Tree}
use Rattle.cap_parse_tree.specs.Tree.{ProgramTree}
use Rattle.cap_parse_tree.specs.Spelling.{spelling}
use Rattle.cap_parse_tree.specs.Nesting.{Nests}
use Rattle.cap_parse_tree.specs.Views.{tree_view}
use Rattle.cap_parse_laws.specs.Versions.{worded}
use Rattle.cap_parse_laws.specs.Texts.{IsUnexpectedAt, IsTooDeepAt}
use Rattle.cap_parse.specs.declared.text.ParseError.{ParseError}
use Rattle.cap_parse.specs.declared.text.ParseError.TheVariants.{Unexpected, TooDeep, OutOfMemory}

-- the place of the first of these tokens, or where there is none that of the end
abbrev pub first_place : List Token → Place → Place
first_place [] end = end
first_place (t ∷ ts) end = t.place

-- the tokens before the end, as they are seen, spell this tree, and it nests
abbrev pub IsTreeOf : List Token → ProgramTree → Type 0
IsTreeOf ts t = (worded ts ≡ spelling t) × Nests t

-- The answer for these tokens, behind which the text ends at this place; want of memory is none of
-- the tokens'.
abbrev pub IsParseOf : List Token → Place → Result Tree ParseError → Type 0
IsParseOf ts end (Ok t) = IsTreeOf ts (tree_view t)
IsParseOf ts end (Err (Unexpected p)) =
    (rest : List Token) × IsUnexpectedAt ts rest × (p ≡ first_place rest end)
IsParseOf ts end (Err (TooDeep p)) =
    (rest : List Token) × IsTooDeepAt ts rest × (p ≡ first_place rest end)
IsParseOf ts end (Err OutOfMemory) = Unit {0}

-- the answer is this tree, unless memory ran out
abbrev pub GivesTree : ProgramTree → Result Tree ParseError → Type 0
GivesTree t (Ok u) = tree_view u ≡ t
GivesTree t (Err e) = e ≡ OutOfMemory

-- the answer is this refusal, unless memory ran out
abbrev pub Refuses : ParseError → Result Tree ParseError → Type 0
Refuses e (Ok t) = ⊥
Refuses e (Err OutOfMemory) = Unit {0}
Refuses e (Err f) = f ≡ e

-- each answer that the tokens have is the one that is given, unless memory ran out
pub record IsOnlyParseOf (ts : List Token) (end : Place) (result : Result Tree ParseError) : Type 0 where
  pub spelled : (t : ProgramTree) → IsTreeOf ts t → GivesTree t result
  pub unexpected : (rest : List Token) → IsUnexpectedAt ts rest
      → Refuses (Unexpected (first_place rest end)) result
  pub too_deep : (rest : List Token) → IsTooDeepAt ts rest
      → Refuses (TooDeep (first_place rest end)) result
