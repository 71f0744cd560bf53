-- What the grammar's reader gives is what the tokens spell, or where they go wrong.
use Rattle.std.proofs.Common.{◌≡◌, ◌↔◌, ◌-◌, List, [], ◌∷◌, ◌++◌, length, take, get_or, Result, Ok, Err, refl, sym, ap, ◌∙◌, subst, arith, length-append}
use Rattle.cap_syntax.specs.declared.place.Place.{Place}
use Rattle.cap_syntax.specs.declared.token.Token.{Token}
use Rattle.cap_parse_tree.specs.declared.tree.Tree.{Tree}
use Rattle.cap_parse_tree.specs.Tree.{ProgramTree}
use Rattle.cap_parse_tree.specs.Spelling.{spelling}
use Rattle.cap_parse_tree.specs.Nesting.{max_nesting, Nests}
use Rattle.cap_parse_tree.specs.Views.{tree_view}
use Rattle.cap_parse_laws.specs.Readers.{unexpected, too_deep}
use Rattle.cap_parse_laws.specs.Grammar.{read_program}
use Rattle.cap_parse_laws.specs.Versions.{worded, behind}
use Rattle.cap_parse_laws.specs.Texts.{IsUnexpectedAt, IsTooDeepAt}
use Rattle.cap_parse.specs.declared.text.ParseError.{ParseError}
use Rattle.cap_parse.specs.declared.text.ParseError.TheVariants.{Unexpected, TooDeep, OutOfMemory}
use Rattle.cap_parse.specs.Parsing.{first_place, IsParseOf, GivesTree, Refuses, IsOnlyParseOf}
use Rattle.cap_parse.specs.Reading.{IsReadingOf}
use Rattle.cap_parse.proofs.Sights.{behind-place}

pub nesting_is : max_nesting ≡ 64
unfolding max_nesting
nesting_is = refl

-- the laws of the grammar
pub record AreLaws : Type 0 where
  pub sound : (ts : List Token) (t : ProgramTree) → read_program max_nesting ts ≡ Ok t → (ts ≡ spelling t) × Nests t
  pub complete : (t : ProgramTree) → Nests t → read_program max_nesting (spelling t) ≡ Ok t
  pub unexpected_at : (ts seen : List Token)
      → (read_program max_nesting (worded ts) ≡ Err (unexpected seen))
      ↔ ((rest : List Token) × (u : IsUnexpectedAt ts rest) × (behind u.front rest ≡ seen))
  pub too_deep_at : (ts seen : List Token)
      → (read_program max_nesting (worded ts) ≡ Err (too_deep seen))
      ↔ ((rest : List Token) × (u : IsTooDeepAt ts rest) × (behind u.front rest ≡ seen))

-- a fault stands where it is seen
here : (front rest seen : List Token) (end p : Place) → behind front rest ≡ seen → p ≡ first_place seen end
    → p ≡ first_place rest end
here front rest seen end p e h = h ∙ ap (λ l. first_place l end) (sym e) ∙ behind-place front rest end

pub parse-of : AreLaws → (ts : List Token) (end : Place) (r : Result Tree ParseError) → IsReadingOf ts end r → IsParseOf ts end r
parse-of laws ts end (Ok t) h = laws.sound (worded ts) (tree_view t) h
parse-of laws ts end (Err (Unexpected p)) h =
    let x = (laws.unexpected_at ts h.0).0 h.1 in (x.0, x.1, here x.1.front x.0 h.0 end p x.2 h.2)
parse-of laws ts end (Err (TooDeep p)) h =
    let x = (laws.too_deep_at ts h.0).0 h.1 in (x.0, x.1, here x.1.front x.0 h.0 end p x.2 h.2)
parse-of laws ts end (Err OutOfMemory) h = tt

gives : (ts : List Token) (end : Place) (t : ProgramTree) (r : Result Tree ParseError) → read_program max_nesting (worded ts) ≡ Ok t → IsReadingOf ts end r → GivesTree t r
gives ts end t (Ok u) e h = let f : Ok (tree_view u) ≡ Ok t = sym h ∙ e in cc
gives ts end t (Err (Unexpected p)) e h = let f = sym e ∙ h.1 in absurd cc
gives ts end t (Err (TooDeep p)) e h = let f = sym e ∙ h.1 in absurd cc
gives ts end t (Err OutOfMemory) e h = refl

refuses-unexpected : (ts : List Token) (end : Place) (rest : List Token) (r : Result Tree ParseError)
    → read_program max_nesting (worded ts) ≡ Err (unexpected rest) → IsReadingOf ts end r → Refuses (Unexpected (first_place rest end)) r
refuses-unexpected ts end rest (Ok u) e h = let f = sym e ∙ h in absurd cc
refuses-unexpected ts end rest (Err (Unexpected p)) e h =
    let f = sym h.1 ∙ e in
    let same : h.0 ≡ rest = cc in
    ap Unexpected (h.2 ∙ ap (λ l. first_place l end) same)
refuses-unexpected ts end rest (Err (TooDeep p)) e h = let f = sym e ∙ h.1 in absurd cc
refuses-unexpected ts end rest (Err OutOfMemory) e h = tt

refuses-too_deep : (ts : List Token) (end : Place) (rest : List Token) (r : Result Tree ParseError)
    → read_program max_nesting (worded ts) ≡ Err (too_deep rest) → IsReadingOf ts end r → Refuses (TooDeep (first_place rest end)) r
refuses-too_deep ts end rest (Ok u) e h = let f = sym e ∙ h in absurd cc
refuses-too_deep ts end rest (Err (Unexpected p)) e h = let f = sym e ∙ h.1 in absurd cc
refuses-too_deep ts end rest (Err (TooDeep p)) e h =
    let f = sym h.1 ∙ e in
    let same : h.0 ≡ rest = cc in
    ap TooDeep (h.2 ∙ ap (λ l. first_place l end) same)
refuses-too_deep ts end rest (Err OutOfMemory) e h = tt

pub only-parse-of : AreLaws → (ts : List Token) (end : Place) (r : Result Tree ParseError) → IsReadingOf ts end r → IsOnlyParseOf ts end r
only-parse-of laws ts end r h = record {
  spelled = λ t s. gives ts end t r (ap (read_program max_nesting) s.0 ∙ laws.complete t s.1) h;
  unexpected = λ rest w.
      subst (λ p. Refuses (Unexpected p) r) (behind-place w.front rest end)
      (refuses-unexpected ts end (behind w.front rest) r ((laws.unexpected_at ts (behind w.front rest)).1 (rest, w, refl)) h);
  too_deep = λ rest w.
      subst (λ p. Refuses (TooDeep p) r) (behind-place w.front rest end)
      (refuses-too_deep ts end (behind w.front rest) r ((laws.too_deep_at ts (behind w.front rest)).1 (rest, w, refl)) h);
}

take-front : (front more : List Token) → take (length front) (front ++ more) ≡ front
take-front [] more = refl
take-front (t ∷ front) more = ap (λ l. t ∷ l) (take-front front more)

get-behind : (front : List Token) (last other : Token) → get_or (front ++ last ∷ []) (length front) other ≡ last
get-behind [] last other = refl
get-behind (t ∷ front) last other = get-behind front last other

one-less : (all front : List Token) (last : Token) → all ≡ front ++ last ∷ [] → length all - 1 ≡ length front
one-less all front last e = omega (arith, ap length e, length-append front (last ∷ []))

-- all tokens but the last, and the last
pub before-last : (all front : List Token) (last : Token) → all ≡ front ++ last ∷ [] → take (length all - 1) all ≡ front
before-last all front last e =
    ap (λ n. take n all) (one-less all front last e) ∙ ap (take (length front)) e ∙ take-front front (last ∷ [])

pub the-last : (all front : List Token) (last other : Token) → all ≡ front ++ last ∷ [] → get_or all (length all - 1) other ≡ last
the-last all front last other e =
    ap (λ n. get_or all n other) (one-less all front last e) ∙ ap (λ l. get_or l (length front) other) e ∙ get-behind front last other

pub parse-answers : AreLaws → (seen front : List Token) (found last : Token) (r : Result Tree ParseError) → IsReadingOf seen found.place r
    → seen ≡ front → found ≡ last → IsParseOf front last.place r
parse-answers laws seen front found last r h s f =
    subst (λ l. IsParseOf l last.place r) s (subst (λ t. IsParseOf seen t.place r) f (parse-of laws seen found.place r h))

pub parse-only : AreLaws → (seen front : List Token) (found last : Token) (r : Result Tree ParseError) → IsReadingOf seen found.place r
    → seen ≡ front → found ≡ last → IsOnlyParseOf front last.place r
parse-only laws seen front found last r h s f =
    subst (λ l. IsOnlyParseOf l last.place r) s (subst (λ t. IsOnlyParseOf seen t.place r) f (only-parse-of laws seen found.place r h))
