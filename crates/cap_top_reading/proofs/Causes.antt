-- The cause for which bytes have no tokens, and no other.
use Rattle.std.proofs.Common.{◌≡◌, ℕ, List, Result, Ok, Err, refl, sym, ap, ◌∙◌, subst}
use Rattle.cap_syntax.specs.declared.place.Place.{Place}
use Rattle.cap_syntax.specs.declared.token.TokenError.{TokenError}
use Rattle.cap_syntax.specs.declared.token.TokenError.TheVariants as token
use Rattle.cap_syntax.specs.Refusal.{UnlessMemory as unless_memory, FailsExactly}
use Rattle.cap_top_reading.specs.declared.refusal.Refusal.{Refusal}
use Rattle.cap_top_reading.specs.declared.refusal.Refusal.TheVariants.{BadByte, LongLiteral, TextTooLong, Unexpected, TooDeep, Unresolved, OutOfMemory}
use Rattle.cap_top_reading.specs.Refused.{IsTokenRefused}
use Rattle.cap_top_reading.specs.Reading.{UnlessMemory, token_refusal}

pub memory_is : (e r : Refusal) → e ≡ OutOfMemory → UnlessMemory e (e ≡ r)
memory_is e r h = subst (λ x. UnlessMemory x (x ≡ r)) (sym h) tt

unless : (d e : TokenError) (x r : Refusal) → x ≡ token_refusal d → r ≡ token_refusal e
    → unless_memory d (d ≡ e) → UnlessMemory x (x ≡ r)
unless token.OutOfMemory e x r f g h = memory_is x r f
unless (token.BadByte p) e x r f g h = rw f (ap token_refusal h ∙ sym g)
unless (token.LongLiteral p) e x r f g h = rw f (ap token_refusal h ∙ sym g)
unless token.TextTooLong e x r f g h = rw f (ap token_refusal h ∙ sym g)

-- what the tokens' refusal says of the text's
abbrev pub TellsCauses : {T : Type 0} → Result T TokenError → List ℕ → Type 0
TellsCauses result bytes =
    ((p : Place) → FailsExactly result (token.BadByte p) bytes)
    × ((p : Place) → FailsExactly result (token.LongLiteral p) bytes)
    × FailsExactly result token.TextTooLong bytes

pub no_cause : {T : Type 0} (bytes : List ℕ) (x : T) → TellsCauses (Ok x) bytes → (r : Refusal)
    → IsTokenRefused bytes r → ⊥
no_cause bytes x c (BadByte p) h = (c.0 p).0 h
no_cause bytes x c (LongLiteral p) h = (c.1 p).0 h
no_cause bytes x c TextTooLong h = c.2.0 h
no_cause bytes x c (Unexpected p) h = h
no_cause bytes x c (TooDeep p) h = h
no_cause bytes x c (Unresolved e) h = h
no_cause bytes x c OutOfMemory h = h

pub the_cause : {T : Type 0} (bytes : List ℕ) (d : TokenError) (x : Refusal) → x ≡ token_refusal d
    → TellsCauses {T = T} (Err d) bytes → (r : Refusal) → IsTokenRefused bytes r
    → UnlessMemory x (x ≡ r)
the_cause bytes d x e c (BadByte p) h =
    unless d (token.BadByte p) x (BadByte p) e refl ((c.0 p).0 h)
the_cause bytes d x e c (LongLiteral p) h =
    unless d (token.LongLiteral p) x (LongLiteral p) e refl ((c.1 p).0 h)
the_cause bytes d x e c TextTooLong h = unless d token.TextTooLong x TextTooLong e refl (c.2.0 h)
the_cause bytes d x e c (Unexpected p) h = absurd h
the_cause bytes d x e c (TooDeep p) h = absurd h
the_cause bytes d x e c (Unresolved f) h = absurd h
the_cause bytes d x e c OutOfMemory h = absurd h
