-- Why a text has no tokens.
use Rattle.std.specs.Prelude.{◌≡◌, ℕ, ◌<◌, ◌≤◌, ◌⊎◌, true, List, length, take, drop, Result, Ok, Err, IsErrOf}
use Rattle.cap_syntax.specs.declared.place.Place.{Place}
use Rattle.cap_syntax.specs.declared.token.Token.{Token}
use Rattle.cap_syntax.specs.declared.token.TokenKind.{TokenKind}
use Rattle.cap_syntax.specs.declared.token.TokenKind.TheVariants.{Number}
use Rattle.cap_syntax.specs.declared.token.TokenError.{TokenError}
use Rattle.cap_syntax.specs.declared.token.TokenError.TheVariants.{BadByte, LongLiteral, TextTooLong, OutOfMemory}
use Rattle.cap_syntax.specs.Spelling.{IsLongest, StartsNone, number_of, max_literal, begins_barred}
use Rattle.cap_syntax.specs.Place.{place_of, IsEarlier}
use Rattle.cap_syntax.specs.Layout.{Reads}

-- how many bytes a text may have
abbrev pub max_text : ℕ
max_text = 1048576

-- a byte that starts no token begins the rest
pub record IsStray (bytes rest : List ℕ) (place : Place) : Type 0 where
  pub left : 0 < length rest
  pub none : StartsNone rest
  pub at : place ≡ place_of bytes rest

-- a token begins the rest, and a byte directly follows it that may not
pub record IsGlued (bytes rest : List ℕ) (place : Place) : Type 0 where
  pub kind : TokenKind
  pub n : ℕ
  pub longest : IsLongest kind n rest
  pub barred : begins_barred kind (drop n rest) ≡ true
  pub at : place ≡ place_of bytes (drop n rest)

-- digits begin the rest that spell more than a literal may
pub record IsTooLong (bytes rest : List ℕ) (place : Place) : Type 0 where
  pub n : ℕ
  pub longest : IsLongest Number n rest
  pub more : max_literal < number_of (take n rest)
  pub at : place ≡ place_of bytes rest

-- the rest, which begins with no gap, can't be read, for this cause
abbrev pub Breaks : List ℕ → List ℕ → TokenError → Type 0
Breaks bytes rest (BadByte place) = IsStray bytes rest place ⊎ IsGlued bytes rest place
Breaks bytes rest (LongLiteral place) = IsTooLong bytes rest place
Breaks bytes rest TextTooLong = ⊥
Breaks bytes rest OutOfMemory = ⊥

-- a text that is too long is refused at its first place
abbrev pub place_named : TokenError → Place
place_named (BadByte place) = place
place_named (LongLiteral place) = place
place_named _ = record { line = 1; column = 1 }

-- of the causes at this rest, none is earlier
pub record IsFirstBreak (bytes rest : List ℕ) (e : TokenError) : Type 0 where
  pub breaks : Breaks bytes rest e
  pub first : (other : TokenError) → Breaks bytes rest other → IsEarlier (place_named other) (place_named e) → ⊥

-- behind tokens of the text there is this cause of a refusal
pub record IsCause (bytes : List ℕ) (e : TokenError) : Type 0 where
  pub front : List Token
  pub rest : List ℕ
  pub read : Reads bytes bytes front rest
  pub breaks : Breaks bytes rest e

-- this cause of a refusal, of which none is earlier
pub record IsFirstCause (bytes : List ℕ) (e : TokenError) : Type 0 where
  pub fits : length bytes ≤ max_text
  pub cause : IsCause bytes e
  pub first : (other : TokenError) → IsCause bytes other → IsEarlier (place_named other) (place_named e) → ⊥

-- the refusal of the text; want of memory is none of the text's
abbrev pub IsRefusal : List ℕ → TokenError → Type 0
IsRefusal bytes TextTooLong = max_text < length bytes
IsRefusal bytes OutOfMemory = ⊥
IsRefusal bytes e = IsFirstCause bytes e

-- the fact holds, unless memory ran out
abbrev pub UnlessMemory : TokenError → Type 0 → Type 0
UnlessMemory OutOfMemory P = Unit {0}
UnlessMemory _ P = P

-- the answer is this error, unless memory ran out
abbrev pub Fails : {T : Type 0} → Result T TokenError → TokenError → Type 0
Fails (Ok x) e = ⊥
Fails (Err d) e = UnlessMemory d (d ≡ e)

-- the answer is this error where it is the text's refusal and only there, unless memory ran out
abbrev pub FailsExactly : {T : Type 0} → Result T TokenError → TokenError → List ℕ → Type 0
FailsExactly result e bytes = (IsRefusal bytes e → Fails result e) × (IsErrOf result e → IsRefusal bytes e)
