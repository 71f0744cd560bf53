-- The tree that the bytes spell, and nothing else.
use Rattle.std.proofs.Common.{◌≡◌, ℕ, List, [], ◌∷◌, ◌++◌, length, ◌≤◌, Ok, Err, refl, sym, ap, ◌∙◌, subst}
use Rattle.std.proofs.lemmas.List.{append_cancel_right}
use Rattle.cap_syntax.specs.declared.place.Place.{Place}
use Rattle.cap_syntax.specs.declared.token.Token.{Token}
use Rattle.cap_syntax.specs.declared.token.TokenError.{TokenError}
use Rattle.cap_syntax.specs.declared.token.TokenError.TheVariants as token
use Rattle.cap_syntax.specs.Layout.{end_of, AreTokensOf}
use Rattle.cap_syntax.specs.Place.{place_of}
use Rattle.cap_syntax.specs.Refusal.{max_text}
use Rattle.cap_parse_tree.specs.declared.tree.Tree.{Tree}
use Rattle.cap_parse_tree.specs.Tree.{ProgramTree}
use Rattle.cap_parse_laws.specs.Versions.{worded}
use Rattle.cap_parse_laws.specs.Texts.{Spells, IsUnexpectedAt, IsTooDeepAt}
use Rattle.cap_parse.specs.Parsing.{first_place, IsTreeOf, IsParseOf, IsOnlyParseOf}
use Rattle.cap_parse.specs.declared.text.ParseError.{ParseError}
use Rattle.cap_parse.specs.declared.text.ParseError.TheVariants as parse
use Rattle.cap_top_reading.specs.declared.refusal.Refusal.{Refusal}
use Rattle.cap_top_reading.specs.declared.refusal.Refusal.TheVariants.{BadByte, LongLiteral, TextTooLong, Unexpected, TooDeep, Unresolved, OutOfMemory}
use Rattle.cap_top_reading.specs.Refused.{IsTokenRefused, GoWrong, SpellNone}
use Rattle.cap_top_reading.specs.Reading.{UnlessMemory, FindsTree, token_refusal, parse_refusal}
use Rattle.cap_top_reading.proofs.Causes.{TellsCauses, the_cause, memory_is}

-- the bytes have these tokens before their end, and no others
pub record HaveTokens (bytes : List ℕ) (ts : List Token) : Type 0 where
  pub fits : length bytes ≤ max_text
  pub are : AreTokensOf bytes (ts ++ end_of bytes ∷ [])
  pub only : (us : List Token) → AreTokensOf bytes (us ++ end_of bytes ∷ []) → ts ≡ us
  pub none : (r : Refusal) → IsTokenRefused bytes r → ⊥

module _ (bytes : List ℕ) (ts : List Token) (have : HaveTokens bytes ts) where
  abbrev end : Place
  end = place_of bytes []

  same_rest : (Wrong : List Token → List Token → Type 0) (p : Place) (g : GoWrong Wrong bytes p)
      → Wrong ts g.rest
  same_rest Wrong p g = subst (λ us. Wrong us g.rest) (sym (have.only g.tokens g.are)) g.wrong

  wrong_here : (Wrong : List Token → List Token → Type 0) (p : Place) (rest : List Token)
      → Wrong ts rest → p ≡ first_place rest end → GoWrong Wrong bytes p
  wrong_here Wrong p rest w e =
      record { fits = have.fits; tokens = ts; are = have.are; rest = rest; wrong = w; at = e }

  -- a tree that the bytes spell is one of these tokens
  spelled_here : (u : ProgramTree) → Spells bytes u → IsTreeOf ts u
  spelled_here u s = (ap worded (have.only s.tokens s.are) ∙ s.seen_as, s.nests)

  -- the tree that was read
  pub tree_found : (t : Tree) → IsParseOf ts end (Ok t) → IsOnlyParseOf ts end (Ok t)
      → FindsTree bytes (Ok t)
  tree_found t h o = record {
    found =
        record { fits = have.fits; tokens = ts; are = have.are; seen_as = h.0; nests = h.1 };
    not_found = tt;
    only_found = λ u s. o.spelled u (spelled_here u s);
    only_caused = by;
  }
    where
      by : (r : Refusal) → SpellNone bytes r → ⊥
      by (Unexpected p) g = o.unexpected g.rest (same_rest IsUnexpectedAt p g)
      by (TooDeep p) g = o.too_deep g.rest (same_rest IsTooDeepAt p g)
      by (BadByte p) g = have.none (BadByte p) g
      by (LongLiteral p) g = have.none (LongLiteral p) g
      by TextTooLong g = have.none TextTooLong g
      by (Unresolved e) g = g
      by OutOfMemory g = g

  -- no other refusal than this one, which is none for want of tokens
  only_this : (e : ParseError) (r : Refusal) → SpellNone bytes r
      → ((q : Place) → GoWrong IsUnexpectedAt bytes q → parse_refusal e ≡ Unexpected q)
      → ((q : Place) → GoWrong IsTooDeepAt bytes q → parse_refusal e ≡ TooDeep q)
      → parse_refusal e ≡ r
  only_this e (Unexpected q) g u d = u q g
  only_this e (TooDeep q) g u d = d q g
  only_this e (BadByte q) g u d = absurd (have.none (BadByte q) g)
  only_this e (LongLiteral q) g u d = absurd (have.none (LongLiteral q) g)
  only_this e TextTooLong g u d = absurd (have.none TextTooLong g)
  only_this e (Unresolved f) g u d = absurd g
  only_this e OutOfMemory g u d = absurd g

  -- the place where the tokens go wrong
  pub tree_refused : (e : ParseError) → IsParseOf ts end (Err e) → IsOnlyParseOf ts end (Err e)
      → FindsTree bytes (Err (parse_refusal e))
  tree_refused (parse.Unexpected p) h o = record {
    found = tt;
    not_found = wrong_here IsUnexpectedAt p h.0 h.1 h.2;
    only_found = λ u s. ap parse_refusal (o.spelled u (spelled_here u s));
    only_caused = λ r g. only_this (parse.Unexpected p) r g
        (λ q w. ap parse_refusal (o.unexpected w.rest (same_rest IsUnexpectedAt q w)) ∙ sym (ap Unexpected w.at))
        (λ q w. ap parse_refusal (o.too_deep w.rest (same_rest IsTooDeepAt q w)) ∙ sym (ap TooDeep w.at));
  }
  tree_refused (parse.TooDeep p) h o = record {
    found = tt;
    not_found = wrong_here IsTooDeepAt p h.0 h.1 h.2;
    only_found = λ u s. ap parse_refusal (o.spelled u (spelled_here u s));
    only_caused = λ r g. only_this (parse.TooDeep p) r g
        (λ q w. ap parse_refusal (o.unexpected w.rest (same_rest IsUnexpectedAt q w)) ∙ sym (ap Unexpected w.at))
        (λ q w. ap parse_refusal (o.too_deep w.rest (same_rest IsTooDeepAt q w)) ∙ sym (ap TooDeep w.at));
  }
  tree_refused parse.OutOfMemory h o =
      record { found = tt; not_found = tt; only_found = λ u s. refl; only_caused = λ r g. tt }

-- the list that was read, apart from its end, is all the tokens of the bytes
pub have_tokens : (bytes : List ℕ) (all front : List Token) → all ≡ front ++ end_of bytes ∷ []
    → length bytes ≤ max_text → AreTokensOf bytes all
    → ((us : List Token) → length bytes ≤ max_text → AreTokensOf bytes us → all ≡ us)
    → ((r : Refusal) → IsTokenRefused bytes r → ⊥) → HaveTokens bytes front
have_tokens bytes all front whole fits are only none = record {
  fits = fits;
  are = subst (AreTokensOf bytes) whole are;
  only = λ us a. append_cancel_right front us (end_of bytes ∷ [])
      (sym whole ∙ only (us ++ end_of bytes ∷ []) fits a);
  none = none;
}

-- the bytes have no tokens
pub no_tokens : {T : Type 0} (bytes : List ℕ) (d : TokenError) (e : Refusal) → e ≡ token_refusal d
    → ((us : List Token) → length bytes ≤ max_text → AreTokensOf bytes us → d ≡ token.OutOfMemory)
    → TellsCauses {T = T} (Err d) bytes → FindsTree bytes (Err e)
no_tokens {T = T} bytes d e same only causes = record {
  found = tt;
  not_found = subst (λ x. UnlessMemory x (SpellNone bytes x)) (sym same) (cause d causes);
  only_found = λ t s. same ∙ ap token_refusal (only _ s.fits s.are);
  only_caused = by;
}
  where
    cause : (f : TokenError) → TellsCauses {T = T} (Err f) bytes
        → UnlessMemory (token_refusal f) (SpellNone bytes (token_refusal f))
    cause (token.BadByte p) c = (c.0 p).1 refl
    cause (token.LongLiteral p) c = (c.1 p).1 refl
    cause token.TextTooLong c = c.2.1 refl
    cause token.OutOfMemory c = tt

    exact : (r : Refusal) → IsTokenRefused bytes r → UnlessMemory e (e ≡ r)
    exact = the_cause bytes d e same causes

    memory : (r : Refusal) (us : List Token) → length bytes ≤ max_text → AreTokensOf bytes us
        → UnlessMemory e (e ≡ r)
    memory r us l a = memory_is e r (same ∙ ap token_refusal (only us l a))

    by : (r : Refusal) → SpellNone bytes r → UnlessMemory e (e ≡ r)
    by (Unexpected q) g = memory (Unexpected q) _ g.fits g.are
    by (TooDeep q) g = memory (TooDeep q) _ g.fits g.are
    by (BadByte q) g = exact (BadByte q) g
    by (LongLiteral q) g = exact (LongLiteral q) g
    by TextTooLong g = exact TextTooLong g
    by (Unresolved f) g = absurd g
    by OutOfMemory g = absurd g
