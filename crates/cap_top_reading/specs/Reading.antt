-- What reading a text returns.
use Rattle.std.specs.Prelude.{◌≡◌, ℕ, List, Result, IfOk, IfErr, MatchResult}
use Rattle.cap_syntax.specs.declared.token.TokenError.{TokenError}
use Rattle.cap_syntax.specs.declared.token.TokenError.TheVariants as token
use Rattle.cap_parse.specs.declared.text.ParseError.{ParseError}
use Rattle.cap_parse.specs.declared.text.ParseError.TheVariants as parse
use Rattle.cap_resolve.specs.declared.error.ResolveError.{ResolveError}
use Rattle.cap_resolve.specs.declared.error.ResolveError.TheVariants as resolve
use Rattle.cap_prog.specs.declared.program.Program.{Program}
use Rattle.cap_prog.specs.Views.{program_view}
use Rattle.cap_parse_tree.specs.declared.tree.Tree.{Tree}
use Rattle.cap_parse_tree.specs.Views.{tree_view}
use Rattle.cap_parse_laws.specs.Texts.{Spells}
use Rattle.cap_top_reading.specs.declared.refusal.Refusal.{Refusal}
use Rattle.cap_top_reading.specs.declared.refusal.Refusal.TheVariants.{BadByte, LongLiteral, TextTooLong, Unexpected, TooDeep, Unresolved, OutOfMemory}
use Rattle.cap_top_reading.specs.Refused.{SpellNone, IsRefused, IsTextOf}

-- the fact holds, unless memory ran out
abbrev pub UnlessMemory : Refusal → Type 0 → Type 0
UnlessMemory OutOfMemory P = Unit {0}
UnlessMemory _ P = P

-- What is so, seen by a view, or the cause for which nothing is, and no other, unless memory ran
-- out.
pub record IsFound {X Y : Type 0} (view : X → Y) (IsSo : Y → Type 0) (IsCaused : Refusal → Type 0)
    (result : Result X Refusal) : Type 0 where
  pub found : IfOk result (λ x. IsSo (view x))
  pub not_found : IfErr result (λ e. UnlessMemory e (IsCaused e))
  pub only_found : (y : Y) → IsSo y → MatchResult result (λ x. view x ≡ y) (λ e. e ≡ OutOfMemory)
  pub only_caused : (r : Refusal) → IsCaused r
      → MatchResult result (λ _. ⊥) (λ e. UnlessMemory e (e ≡ r))

-- the tree that the bytes spell
abbrev pub FindsTree : List ℕ → Result Tree Refusal → Type 0
FindsTree bytes result = IsFound tree_view (Spells bytes) (SpellNone bytes) result

-- the program for which that tree stands
abbrev pub FindsProgram : List ℕ → Result Program Refusal → Type 0
FindsProgram bytes result = IsFound program_view (IsTextOf bytes) (IsRefused bytes) result

abbrev pub token_refusal : TokenError → Refusal
token_refusal (token.BadByte p) = BadByte p
token_refusal (token.LongLiteral p) = LongLiteral p
token_refusal token.TextTooLong = TextTooLong
token_refusal token.OutOfMemory = OutOfMemory

abbrev pub parse_refusal : ParseError → Refusal
parse_refusal (parse.Unexpected p) = Unexpected p
parse_refusal (parse.TooDeep p) = TooDeep p
parse_refusal parse.OutOfMemory = OutOfMemory

abbrev pub resolve_refusal : ResolveError → Refusal
resolve_refusal resolve.OutOfMemory = OutOfMemory
resolve_refusal e = Unresolved e
