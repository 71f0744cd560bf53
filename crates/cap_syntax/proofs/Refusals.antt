-- The earliest cause of a refusal.
use Rattle.std.proofs.Common.{◌≡◌, ℕ, ◌<◌, ◌≤◌, true, List, [], ◌∷◌, ◌++◌, length, take, drop, Result, Ok, Err, refl, sym, ap, subst, ◌∙◌, arith, inl, inr}
use Rattle.std.specs.Prelude.{MatchResult, IsOkUnless, ⊤}
use Rattle.std.proofs.lemmas.Bool.{both_ways}
use Rattle.cap_syntax.specs.declared.place.Place.{Place}
use Rattle.cap_syntax.specs.declared.token.Token.{Token}
use Rattle.cap_syntax.specs.declared.token.TokenKind.{TokenKind}
use Rattle.cap_syntax.specs.declared.token.TokenKind.TheVariants.{Number}
use Rattle.cap_syntax.specs.declared.token.TokenError.{TokenError}
use Rattle.cap_syntax.specs.declared.token.TokenError.TheVariants.{BadByte, LongLiteral, TextTooLong, OutOfMemory}
use Rattle.cap_syntax.specs.Spelling.{IsLongest, StartsNone, number_of, value_of, max_literal, begins_barred}
use Rattle.cap_syntax.specs.Place.{place_after, place_of, StandsAt, IsEarlier}
use Rattle.cap_syntax.specs.Layout.{Reads, AreTokensOf, EndsOnce, end_of}
use Rattle.cap_syntax.specs.Refusal.{max_text, Breaks, IsCause, place_named, IsFirstBreak, IsFirstCause, IsRefusal, UnlessMemory, Fails, FailsExactly}
use Rattle.cap_syntax.proofs.Reading.{token_has_bytes, text_stands, ends_once}
use Rattle.cap_syntax.proofs.Places.{moves, not_earlier_at_one, not_both_earlier, earlier_before}
use Rattle.cap_syntax.proofs.Once.{one_longest, Stops, one_stop, nothing_stands}

no_longest : (rest : List ℕ) (k : TokenKind) (n : ℕ) → StartsNone rest → IsLongest k n rest → ⊥
no_longest rest k n none longest = both_ways _ (none k n longest.within) longest.spelled

-- where the rest can't be read, no token stands
breaks_stops : (bytes rest : List ℕ) (e : TokenError) → Breaks bytes rest e → Stops bytes rest
breaks_stops bytes rest (BadByte place) (inl stray) t token = no_longest rest t.kind (length t.text) stray.none token.longest
breaks_stops bytes rest (BadByte place) (inr glued) t token =
    let same = one_longest glued.kind t.kind glued.n (length t.text) rest glued.longest token.longest in
    both_ways _ token.apart ((λ i. begins_barred (sym same.0 i) (drop (sym same.1 i) rest)) ∙ glued.barred)
breaks_stops bytes rest (LongLiteral place) long t token =
    let same = one_longest Number t.kind long.n (length t.text) rest long.longest token.longest in
    let value : number_of (take long.n rest) ≡ t.value = (λ i. value_of (same.0 i) (take (same.1 i) rest)) ∙ ap (value_of t.kind) (sym token.text) ∙ sym token.value in
    omega (arith, value, token.small, long.more)
breaks_stops bytes rest TextTooLong breaks t token = breaks
breaks_stops bytes rest OutOfMemory breaks t token = breaks

-- ---- of the causes at one rest, which come first

module _ (bytes rest : List ℕ) (place : Place) (stands : StandsAt bytes rest place) where
  pub stray_is_first : 0 < length rest → StartsNone rest → IsFirstBreak bytes rest (BadByte place)
  stray_is_first left none = record { breaks = inl (record { left = left; none = none; at = stands.at }); first = first }
    where
      first : (other : TokenError) → Breaks bytes rest other → IsEarlier (place_named other) place → ⊥
      first (BadByte p) (inl stray) earlier = not_earlier_at_one p place (stray.at ∙ sym stands.at) earlier
      first (BadByte p) (inr glued) earlier = no_longest rest glued.kind glued.n none glued.longest
      first (LongLiteral p) long earlier = no_longest rest Number long.n none long.longest
      first TextTooLong breaks earlier = breaks
      first OutOfMemory breaks earlier = breaks

  pub long_is_first : (n : ℕ) → IsLongest Number n rest → max_literal < number_of (take n rest) → IsFirstBreak bytes rest (LongLiteral place)
  long_is_first n longest more = record { breaks = record { n = n; longest = longest; more = more; at = stands.at }; first = first }
    where
      first : (other : TokenError) → Breaks bytes rest other → IsEarlier (place_named other) place → ⊥
      first (BadByte p) (inl stray) earlier = no_longest rest Number n stray.none longest
      first (BadByte p) (inr glued) earlier =
          not_both_earlier p (place_of bytes rest) (subst (λ q. IsEarlier p q) stands.at earlier)
          (subst (λ q. IsEarlier (place_of bytes rest) q) (sym glued.at) (earlier_before bytes rest place glued.n stands (token_has_bytes glued.kind glued.n rest glued.longest) glued.longest.within))
      first (LongLiteral p) long earlier = not_earlier_at_one p place (long.at ∙ sym stands.at) earlier
      first TextTooLong breaks earlier = breaks
      first OutOfMemory breaks earlier = breaks

  pub glued_is_first : (kind : TokenKind) (n : ℕ) (behind : Place) → IsLongest kind n rest → value_of kind (take n rest) ≤ max_literal → begins_barred kind (drop n rest) ≡ true → StandsAt bytes (drop n rest) behind
      → IsFirstBreak bytes rest (BadByte behind)
  glued_is_first kind n behind longest small barred further = record { breaks = inr (record { kind = kind; n = n; longest = longest; barred = barred; at = further.at }); first = first }
    where
      first : (other : TokenError) → Breaks bytes rest other → IsEarlier (place_named other) behind → ⊥
      first (BadByte p) (inl stray) earlier = no_longest rest kind n stray.none longest
      first (BadByte p) (inr glued) earlier =
          let same = one_longest glued.kind kind glued.n n rest glued.longest longest in
          not_earlier_at_one p behind (glued.at ∙ ap (λ (m : ℕ). place_of bytes (drop m rest)) same.1 ∙ sym further.at) earlier
      first (LongLiteral p) long earlier =
          let same = one_longest Number kind long.n n rest long.longest longest in
          let value : number_of (take long.n rest) ≡ value_of kind (take n rest) = λ i. value_of (same.0 i) (take (same.1 i) rest) in
          omega (arith, value, small, long.more)
      first TextTooLong breaks earlier = breaks
      first OutOfMemory breaks earlier = breaks

  -- the same, as the code has cut the text

  pub literal_is_first : (kind : TokenKind) (n : ℕ) (text : List ℕ) → IsLongest kind n rest → text ≡ take n rest → max_literal < value_of kind text → IsFirstBreak bytes rest (LongLiteral place)
  literal_is_first Number n text longest text-is more = long_is_first n longest (subst (λ t. max_literal < number_of t) text-is more)
  literal_is_first _ n text longest text-is more = absurd (omega arith)

  pub glued_text_is_first : (kind : TokenKind) (n value : ℕ) (text after : List ℕ) (behind : Place) → IsLongest kind n rest → text ≡ take n rest → after ≡ drop n rest → (value ≡ value_of kind text) × (value ≤ max_literal) → begins_barred kind after ≡ true
      → ((front : List ℕ) → place ≡ place_after front → behind ≡ place_after (front ++ text)) → IsFirstBreak bytes rest (BadByte behind)
  glued_text_is_first kind n value text after behind longest text-is after-is fits barred moved =
      glued_is_first kind n behind longest (subst (λ t. value_of kind t ≤ max_literal) text-is (omega (arith, fits.0, fits.1))) (ap (begins_barred kind) (sym after-is) ∙ barred)
      (moves bytes rest place behind n stands longest.within (λ front at. moved front at ∙ ap (λ (t : List ℕ). place_after (front ++ t)) text-is))

-- ---- one refusal of a text

-- the first cause at the rest where reading stops is the first of the text
pub first_of_text : (bytes : List ℕ) (front : List Token) (rest : List ℕ) (e : TokenError) → length bytes ≤ max_text → Reads bytes bytes front rest → IsFirstBreak bytes rest e → IsFirstCause bytes e
first_of_text bytes front rest e fits read break = record {
  fits = fits;
  cause = record { front = front; rest = rest; read = read; breaks = break.breaks };
  first = λ other cause earlier.
      let same = one_stop bytes bytes front cause.front rest cause.rest read (breaks_stops bytes rest e break.breaks) cause.read (breaks_stops bytes cause.rest other cause.breaks) in
      break.first other (subst (λ (r : List ℕ). Breaks bytes r other) (sym same.1) cause.breaks) earlier;
}

pub break_is_refusal : (bytes : List ℕ) (front : List Token) (rest : List ℕ) (e : TokenError) → length bytes ≤ max_text → Reads bytes bytes front rest → UnlessMemory e (IsFirstBreak bytes rest e) → UnlessMemory e (IsRefusal bytes e)
break_is_refusal bytes front rest (BadByte p) fits read break = first_of_text bytes front rest (BadByte p) fits read break
break_is_refusal bytes front rest (LongLiteral p) fits read break = first_of_text bytes front rest (LongLiteral p) fits read break
break_is_refusal bytes front rest TextTooLong fits read break = absurd break.breaks
break_is_refusal bytes front rest OutOfMemory fits read break = tt

pub tokens_exclude_causes : (bytes : List ℕ) (all : List Token) (e : TokenError) → AreTokensOf bytes all → IsCause bytes e → ⊥
tokens_exclude_causes bytes all e tokens cause =
    let same = one_stop bytes bytes tokens.front cause.front [] cause.rest tokens.read (nothing_stands bytes) cause.read (breaks_stops bytes cause.rest e cause.breaks) in
    nothing_breaks e (subst (λ (r : List ℕ). Breaks bytes r e) (sym same.1) cause.breaks)
  where
    nothing_breaks : (e : TokenError) → Breaks bytes [] e → ⊥
    nothing_breaks (BadByte p) (inl stray) = omega (arith, stray.left)
    nothing_breaks (BadByte p) (inr glued) = omega (arith, token_has_bytes glued.kind glued.n [] glued.longest, glued.longest.within)
    nothing_breaks (LongLiteral p) long = omega (arith, token_has_bytes Number long.n [] long.longest, long.longest.within)
    nothing_breaks TextTooLong breaks = breaks
    nothing_breaks OutOfMemory breaks = breaks

bad_bytes_agree : (bytes rest : List ℕ) (p q : Place) → Breaks bytes rest (BadByte p) → Breaks bytes rest (BadByte q) → p ≡ q
bad_bytes_agree bytes rest p q (inl a) (inl b) = a.at ∙ sym b.at
bad_bytes_agree bytes rest p q (inl a) (inr b) = absurd (no_longest rest b.kind b.n a.none b.longest)
bad_bytes_agree bytes rest p q (inr a) (inl b) = absurd (no_longest rest a.kind a.n b.none a.longest)
bad_bytes_agree bytes rest p q (inr a) (inr b) =
    a.at ∙ ap (λ (m : ℕ). place_of bytes (drop m rest)) (one_longest a.kind b.kind a.n b.n rest a.longest b.longest).1 ∙ sym b.at

-- where digits spell too much, a bad byte is no first cause
long_comes_first : (bytes rest : List ℕ) (p q : Place) → StandsAt bytes rest (place_of bytes rest) → Breaks bytes rest (BadByte p) → Breaks bytes rest (LongLiteral q) → (IsEarlier q p → ⊥) → ⊥
long_comes_first bytes rest p q stands (inl stray) long first = no_longest rest Number long.n stray.none long.longest
long_comes_first bytes rest p q stands (inr glued) long first =
    first (subst (λ r. IsEarlier r p) (sym long.at) (subst (λ r. IsEarlier (place_of bytes rest) r) (sym glued.at) (earlier_before bytes rest (place_of bytes rest) glued.n stands (token_has_bytes glued.kind glued.n rest glued.longest) glued.longest.within)))

one_first : (bytes rest : List ℕ) (e d : TokenError) → StandsAt bytes rest (place_of bytes rest) → Breaks bytes rest e → Breaks bytes rest d → (IsEarlier (place_named e) (place_named d) → ⊥) → (IsEarlier (place_named d) (place_named e) → ⊥) → e ≡ d
one_first bytes rest (BadByte p) (BadByte q) stands a b e-first d-first = ap BadByte (bad_bytes_agree bytes rest p q a b)
one_first bytes rest (BadByte p) (LongLiteral q) stands a b e-first d-first = absurd (long_comes_first bytes rest p q stands a b d-first)
one_first bytes rest (LongLiteral p) (BadByte q) stands a b e-first d-first = absurd (long_comes_first bytes rest q p stands b a e-first)
one_first bytes rest (LongLiteral p) (LongLiteral q) stands a b e-first d-first = ap LongLiteral (a.at ∙ sym b.at)
one_first bytes rest TextTooLong d stands a b e-first d-first = absurd a
one_first bytes rest OutOfMemory d stands a b e-first d-first = absurd a
one_first bytes rest (BadByte p) TextTooLong stands a b e-first d-first = absurd b
one_first bytes rest (BadByte p) OutOfMemory stands a b e-first d-first = absurd b
one_first bytes rest (LongLiteral p) TextTooLong stands a b e-first d-first = absurd b
one_first bytes rest (LongLiteral p) OutOfMemory stands a b e-first d-first = absurd b

one_first_cause : (bytes : List ℕ) (e d : TokenError) → IsFirstCause bytes e → IsFirstCause bytes d → e ≡ d
one_first_cause bytes e d a b =
    let same = one_stop bytes bytes a.cause.front b.cause.front a.cause.rest b.cause.rest a.cause.read (breaks_stops bytes a.cause.rest e a.cause.breaks) b.cause.read (breaks_stops bytes b.cause.rest d b.cause.breaks) in
    one_first bytes a.cause.rest e d (text_stands bytes a.cause.front a.cause.rest a.cause.read) a.cause.breaks (subst (λ (r : List ℕ). Breaks bytes r d) (sym same.1) b.cause.breaks) (b.first e a.cause) (a.first d b.cause)

pub one_refusal : (bytes : List ℕ) (e d : TokenError) → IsRefusal bytes e → IsRefusal bytes d → e ≡ d
one_refusal bytes (BadByte p) (BadByte q) a b = one_first_cause bytes (BadByte p) (BadByte q) a b
one_refusal bytes (BadByte p) (LongLiteral q) a b = one_first_cause bytes (BadByte p) (LongLiteral q) a b
one_refusal bytes (LongLiteral p) (BadByte q) a b = one_first_cause bytes (LongLiteral p) (BadByte q) a b
one_refusal bytes (LongLiteral p) (LongLiteral q) a b = one_first_cause bytes (LongLiteral p) (LongLiteral q) a b
one_refusal bytes (BadByte p) TextTooLong a b = absurd (omega (arith, a.fits))
one_refusal bytes (LongLiteral p) TextTooLong a b = absurd (omega (arith, a.fits))
one_refusal bytes TextTooLong (BadByte q) a b = absurd (omega (arith, b.fits))
one_refusal bytes TextTooLong (LongLiteral q) a b = absurd (omega (arith, b.fits))
one_refusal bytes TextTooLong TextTooLong a b = refl
one_refusal bytes OutOfMemory d a b = absurd a
one_refusal bytes e OutOfMemory a b = absurd b

pub refusals_exclude_tokens : (bytes : List ℕ) (all : List Token) (e : TokenError) → length bytes ≤ max_text → AreTokensOf bytes all → IsRefusal bytes e → ⊥
refusals_exclude_tokens bytes all (BadByte p) fits tokens refused = tokens_exclude_causes bytes all (BadByte p) tokens refused.cause
refusals_exclude_tokens bytes all (LongLiteral p) fits tokens refused = tokens_exclude_causes bytes all (LongLiteral p) tokens refused.cause
refusals_exclude_tokens bytes all TextTooLong fits tokens refused = omega arith
refusals_exclude_tokens bytes all OutOfMemory fits tokens refused = refused

one_list : (bytes : List ℕ) (all others : List Token) → AreTokensOf bytes all → AreTokensOf bytes others → all ≡ others
one_list bytes all others a b =
    a.whole ∙ ap (λ (ts : List Token). ts ++ end_of bytes ∷ []) (one_stop bytes bytes a.front b.front [] [] a.read (nothing_stands bytes) b.read (nothing_stands bytes)).0 ∙ sym b.whole

-- ---- what an answer that is explained says

module _ {V : Type 0} (items : V → List Token) (bytes : List ℕ) where
  abbrev pub Explained : Result V TokenError → Type 0
  Explained result = MatchResult result (λ v. (length bytes ≤ max_text) × AreTokensOf bytes (items v)) (λ e. UnlessMemory e (IsRefusal bytes e))

  pub explained_only : (result : Result V TokenError) (ts : List Token) → Explained result → length bytes ≤ max_text → AreTokensOf bytes ts → MatchResult result (λ v. items v ≡ ts) (λ e. e ≡ OutOfMemory)
  explained_only (Ok v) ts explained fits tokens = one_list bytes (items v) ts explained.1 tokens
  explained_only (Err (BadByte p)) ts explained fits tokens = absurd (refusals_exclude_tokens bytes ts (BadByte p) fits tokens explained)
  explained_only (Err (LongLiteral p)) ts explained fits tokens = absurd (refusals_exclude_tokens bytes ts (LongLiteral p) fits tokens explained)
  explained_only (Err TextTooLong) ts explained fits tokens = absurd (refusals_exclude_tokens bytes ts TextTooLong fits tokens explained)
  explained_only (Err OutOfMemory) ts explained fits tokens = refl

  pub explained_ends : (result : Result V TokenError) → Explained result → MatchResult result (λ v. EndsOnce (items v)) (λ _. ⊤)
  explained_ends (Ok v) explained = ends_once bytes (items v) explained.1
  explained_ends (Err e) explained = tt

  pub explained_accepted : (result : Result V TokenError) → Explained result → ((e : TokenError) → IsCause bytes e → ⊥) → length bytes ≤ max_text → IsOkUnless result OutOfMemory
  explained_accepted (Ok v) explained none fits = tt
  explained_accepted (Err (BadByte p)) explained none fits = absurd (none (BadByte p) explained.cause)
  explained_accepted (Err (LongLiteral p)) explained none fits = absurd (none (LongLiteral p) explained.cause)
  explained_accepted (Err TextTooLong) explained none fits = absurd (omega arith)
  explained_accepted (Err OutOfMemory) explained none fits = refl

  fails : (result : Result V TokenError) (e : TokenError) → Explained result → IsRefusal bytes e → Fails result e
  fails (Ok v) e explained refused = refusals_exclude_tokens bytes (items v) e explained.0 explained.1 refused
  fails (Err (BadByte p)) e explained refused = one_refusal bytes (BadByte p) e explained refused
  fails (Err (LongLiteral p)) e explained refused = one_refusal bytes (LongLiteral p) e explained refused
  fails (Err TextTooLong) e explained refused = one_refusal bytes TextTooLong e explained refused
  fails (Err OutOfMemory) e explained refused = tt

  -- e is no want of memory
  pub fails_exactly : (result : Result V TokenError) (e : TokenError) → (UnlessMemory e (IsRefusal bytes e) → IsRefusal bytes e) → Explained result → FailsExactly result e bytes
  fails_exactly result e own explained =
      (fails result e explained, λ is. own (subst (λ (r : Result V TokenError). Explained r) is explained))
