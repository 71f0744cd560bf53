-- Bytes are the text of a tree and of a program, or refused.
use Rattle.std.proofs.Common.{◌≡◌, ◌⊎◌, inl, inr, ℕ, ◌<◌, ◌≤◌, List, [], ◌∷◌, ◌++◌, length, Option, Some, None, refl, ap}
use Rattle.std.proofs.lemmas.Bool.{cases_lt}
use Rattle.cap_syntax.specs.declared.place.Place.{Place}
use Rattle.cap_syntax.specs.declared.token.Token.{Token}
use Rattle.cap_syntax.specs.declared.token.TokenError.{TokenError}
use Rattle.cap_syntax.specs.declared.token.TokenError.TheVariants as token
use Rattle.cap_syntax.specs.Layout.{end_of, AreTokensOf}
use Rattle.cap_syntax.specs.Place.{place_of}
use Rattle.cap_syntax.specs.Refusal.{max_text, IsFirstCause}
use Rattle.cap_parse_tree.specs.Tree.{ProgramTree}
use Rattle.cap_parse_tree.specs.Spelling.{spelling}
use Rattle.cap_parse_tree.specs.Nesting.{Nests}
use Rattle.cap_parse_laws.specs.Versions.{worded}
use Rattle.cap_parse_laws.specs.Texts.{Spells, IsUnexpectedAt, IsTooDeepAt}
use Rattle.cap_parse.specs.Parsing.{first_place}
use Rattle.cap_resolve_spec.specs.Finding as plain
use Rattle.cap_resolve_spec.specs.Program.{program_of}
use Rattle.cap_resolve_spec.specs.Stands.{refusal}
use Rattle.cap_resolve_terms.specs.declared.finding.Limit.{Limit}
use Rattle.cap_resolve_terms.specs.declared.finding.Limit.TheVariants as limits
use Rattle.cap_resolve_terms.specs.Views.{limit_view}
use Rattle.cap_top_commands.specs.cap_resolve.declared.error.ResolveError.{ResolveError}
use Rattle.cap_top_commands.specs.cap_resolve.declared.error.ResolveError.TheVariants as error
use Rattle.cap_top_commands.specs.cap_resolve.Errors.{finding_at, error_view}
use Rattle.cap_top_commands.specs.cap_top_reading.declared.refusal.Refusal.{Refusal}
use Rattle.cap_top_commands.specs.cap_top_reading.declared.refusal.Refusal.TheVariants.{BadByte, LongLiteral, TextTooLong, Unexpected, TooDeep, Unresolved, OutOfMemory}
use Rattle.cap_top_commands.specs.cap_top_reading.Refused.{SpellNone, IsRefused}
use Rattle.cap_top_laws.specs.Laws.{SpellOneOrNone, AreTextOrRefused, BytesAreReadOrRefused}

-- ---- a tree

abbrev HaveTokensOrNot : List ℕ → Type 0
HaveTokensOrNot bytes = ((all : List Token) × AreTokensOf bytes all) ⊎ ((e : TokenError) × IsFirstCause bytes e)

abbrev pub TextsAreReadOrRefused : Type 0
TextsAreReadOrRefused = (bytes : List ℕ) → length bytes ≤ max_text → HaveTokensOrNot bytes

abbrev SpellOrGoWrong : List Token → Type 0
SpellOrGoWrong ts =
    ((t : ProgramTree) × (worded ts ≡ spelling t) × Nests t)
    ⊎ (((rest : List Token) × IsUnexpectedAt ts rest) ⊎ ((rest : List Token) × IsTooDeepAt ts rest))

abbrev pub TokensSpellOrGoWrong : Type 0
TokensSpellOrGoWrong = (ts : List Token) → SpellOrGoWrong ts

no-tokens : (bytes : List ℕ) (e : TokenError) → IsFirstCause bytes e → SpellOneOrNone bytes
no-tokens bytes (token.BadByte p) c = inr (BadByte p, c)
no-tokens bytes (token.LongLiteral p) c = inr (LongLiteral p, c)
no-tokens bytes token.TextTooLong c = absurd c.cause.breaks
no-tokens bytes token.OutOfMemory c = absurd c.cause.breaks

tokens-spell : (bytes : List ℕ) (ts : List Token) → length bytes ≤ max_text → AreTokensOf bytes (ts ++ end_of bytes ∷ [])
    → SpellOrGoWrong ts → SpellOneOrNone bytes
tokens-spell bytes ts fits are (inl h) =
    inl (h.0, record { fits = fits; tokens = ts; are = are; seen_as = h.1; nests = h.2 })
tokens-spell bytes ts fits are (inr (inl h)) = inr (
  Unexpected (first_place h.0 (place_of bytes [])),
  record { fits = fits; tokens = ts; are = are; rest = h.0; wrong = h.1; at = refl },
)
tokens-spell bytes ts fits are (inr (inr h)) = inr (
  TooDeep (first_place h.0 (place_of bytes [])),
  record { fits = fits; tokens = ts; are = are; rest = h.0; wrong = h.1; at = refl },
)

spell-one-or-none : TextsAreReadOrRefused → TokensSpellOrGoWrong → (bytes : List ℕ) → SpellOneOrNone bytes
spell-one-or-none read spell bytes = by (cases_lt max_text (length bytes))
  where
    behind : length bytes ≤ max_text → HaveTokensOrNot bytes → SpellOneOrNone bytes
    behind fits (inl h) =
        tokens-spell bytes h.1.front fits (record { front = h.1.front; whole = refl; read = h.1.read }) (spell h.1.front)
    behind fits (inr h) = no-tokens bytes h.0 h.1

    by : (max_text < length bytes) ⊎ (length bytes ≤ max_text) → SpellOneOrNone bytes
    by (inl more) = inr (TextTooLong, more)
    by (inr fits) = behind fits (read bytes fits)

-- ---- a program

-- each finding is seen of an error
seen-limit : (l : plain.Limit) → (k : Limit) × (limit_view k ≡ l)
seen-limit plain.function_count = (limits.Functions, refl)
seen-limit plain.region_count = (limits.Regions, refl)
seen-limit plain.parameter_count = (limits.Parameters, refl)
seen-limit plain.guard_count = (limits.Guards, refl)
seen-limit plain.variable_count = (limits.Variables, refl)
seen-limit plain.cell_count = (limits.Alloc, refl)
seen-limit plain.width = (limits.Width, refl)

seen-finding : (p : Place) (c : plain.Cause) → (e : ResolveError) × (error_view e ≡ finding_at p c)
seen-finding p (plain.unknown x) = (error.Unknown x p, refl)
seen-finding p (plain.twice x) = (error.Twice x p, refl)
seen-finding p plain.wrong_arity = (error.Arity p, refl)
seen-finding p plain.wrong_sort = (error.Sort p, refl)
seen-finding p plain.nonlinear = (error.NonLinear p, refl)
seen-finding p plain.no_main = (error.NoMain p, refl)
seen-finding p plain.main_precondition = (error.MainPre p, refl)
seen-finding p plain.self_fact = (error.SelfFact p, refl)
seen-finding p (plain.limit l) =
    let k = seen-limit l in (error.Limit k.0 p, ap (λ m. finding_at p (plain.limit m)) k.1)

resolved-or-not : (bytes : List ℕ) (t : ProgramTree) → Spells bytes t → (o : Option plain.Finding) → refusal t ≡ o → AreTextOrRefused bytes
resolved-or-not bytes t s None e =
    inl (program_of t, record { tree = t; spelled = s; stands = record { unrefused = e; same = refl } })
resolved-or-not bytes t s (Some f) e =
    let k = seen-finding f.place f.cause in
    inr (Unresolved k.0, record { tree = t; spelled = s; finding = f; refused = e; caused = k.1 })

none-refused : (bytes : List ℕ) (r : Refusal) → SpellNone bytes r → IsRefused bytes r
none-refused bytes (BadByte p) h = h
none-refused bytes (LongLiteral p) h = h
none-refused bytes TextTooLong h = h
none-refused bytes (Unexpected p) h = h
none-refused bytes (TooDeep p) h = h
none-refused bytes (Unresolved e) h = absurd h
none-refused bytes OutOfMemory h = h

text-or-refused : (bytes : List ℕ) → SpellOneOrNone bytes → AreTextOrRefused bytes
text-or-refused bytes (inl h) = resolved-or-not bytes h.0 h.1 (refusal h.0) refl
text-or-refused bytes (inr h) = inr (h.0, none-refused bytes h.0 h.1)

pub read-or-refused : TextsAreReadOrRefused → TokensSpellOrGoWrong → BytesAreReadOrRefused
read-or-refused read spell = record {
  trees = spell-one-or-none read spell;
  programs = λ bytes. text-or-refused bytes (spell-one-or-none read spell bytes);
}
