-- What bytes are that are no text of a tree, or of a program: each has one cause.
use Rattle.std.specs.Prelude.{◌≡◌, ℕ, ◌≤◌, List, [], ◌∷◌, ◌++◌, length, Some}
use Rattle.cap_syntax.specs.declared.place.Place.{Place}
use Rattle.cap_syntax.specs.declared.token.Token.{Token}
use Rattle.cap_syntax.specs.declared.token.TokenError.TheVariants as token
use Rattle.cap_syntax.specs.Layout.{end_of, AreTokensOf}
use Rattle.cap_syntax.specs.Place.{place_of}
use Rattle.cap_syntax.specs.Refusal.{max_text, IsRefusal}
use Rattle.cap_prog.specs.Program.{PlainProgram}
use Rattle.cap_parse_tree.specs.Tree.{ProgramTree}
use Rattle.cap_parse_laws.specs.Texts.{Spells, IsUnexpectedAt, IsTooDeepAt}
use Rattle.cap_parse.specs.Parsing.{first_place}
use Rattle.cap_resolve_spec.specs.Finding.{Finding}
use Rattle.cap_resolve_spec.specs.Stands.{refusal, Stands}
use Rattle.cap_resolve.specs.declared.error.ResolveError.{ResolveError}
use Rattle.cap_resolve.specs.Errors.{error_view}
use Rattle.cap_top_reading.specs.declared.refusal.Refusal.{Refusal}
use Rattle.cap_top_reading.specs.declared.refusal.Refusal.TheVariants.{BadByte, LongLiteral, TextTooLong, Unexpected, TooDeep, Unresolved}

-- the bytes have no tokens, for this cause
abbrev pub IsTokenRefused : List ℕ → Refusal → Type 0
IsTokenRefused bytes (BadByte p) = IsRefusal bytes (token.BadByte p)
IsTokenRefused bytes (LongLiteral p) = IsRefusal bytes (token.LongLiteral p)
IsTokenRefused bytes TextTooLong = IsRefusal bytes token.TextTooLong
IsTokenRefused bytes _ = ⊥

-- The tokens of the bytes go wrong in this way; at the place stands the first token of the rest, or
-- where there is none the end.
pub record GoWrong (Wrong : List Token → List Token → Type 0) (bytes : List ℕ) (place : Place)
    : Type 0 where
  pub fits : length bytes ≤ max_text
  pub tokens : List Token
  pub are : AreTokensOf bytes (tokens ++ end_of bytes ∷ [])
  pub rest : List Token
  pub wrong : Wrong tokens rest
  pub at : place ≡ first_place rest (place_of bytes [])

-- the bytes spell no tree, for this cause; want of memory is none of theirs
abbrev pub SpellNone : List ℕ → Refusal → Type 0
SpellNone bytes (Unexpected p) = GoWrong IsUnexpectedAt bytes p
SpellNone bytes (TooDeep p) = GoWrong IsTooDeepAt bytes p
SpellNone bytes r = IsTokenRefused bytes r

-- the bytes spell a tree that stands for no program, for this cause
pub record IsUnresolved (bytes : List ℕ) (e : ResolveError) : Type 0 where
  pub tree : ProgramTree
  pub spelled : Spells bytes tree
  pub finding : Finding
  pub refused : refusal tree ≡ Some finding
  pub caused : error_view e ≡ Some finding

-- the bytes are no program's text, for this cause
abbrev pub IsRefused : List ℕ → Refusal → Type 0
IsRefused bytes (Unresolved e) = IsUnresolved bytes e
IsRefused bytes r = SpellNone bytes r

-- the bytes spell a tree that stands for the program
pub record IsTextOf (bytes : List ℕ) (p : PlainProgram) : Type 0 where
  pub tree : ProgramTree
  pub spelled : Spells bytes tree
  pub stands : Stands tree p
