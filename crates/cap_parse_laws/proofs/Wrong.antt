-- Where a text of either version goes wrong: as its view does.
use Rattle.std.proofs.Common.{◌≡◌, ◌↔◌, ◌⊎◌, inl, inr, List, [], ◌∷◌, ◌++◌, ◌+◌, length, Result, Ok, Err, IsSome, arith, refl, sym, ap, ◌∙◌, subst}
use Rattle.cap_syntax.specs.declared.token.Token.{Token}
use Rattle.cap_parse_tree.specs.Tree.{ProgramTree}
use Rattle.cap_parse_tree.specs.Spelling.{spelling}
use Rattle.cap_parse_tree.specs.Nesting.{max_nesting, room_left, opens, Nests}
use Rattle.cap_parse_laws.specs.Readers.{Fault, unexpected, too_deep}
use Rattle.cap_parse_laws.specs.Grammar.{read_program}
use Rattle.cap_parse_laws.specs.Versions.{worded, behind}
use Rattle.cap_parse_laws.specs.Texts.{BeginsText, IsUnexpectedAt, IsTooDeepAt}
use Rattle.cap_parse_laws.proofs.Seen.{BeginsTree, IsSeenUnexpected, IsSeenTooDeep}
use Rattle.cap_parse_laws.proofs.View.{same-first, worded-behind, none-behind, view-split, view-room, SeenNext, seen-next, seen-one-more}
use Rattle.cap_parse_laws.proofs.Begins.{begins-text, begins-tree}
use Rattle.cap_parse_laws.proofs.Exact.{read-is-spelled, unexpected-is, is-unexpected, too-deep-is, is-too-deep}

empty-view : (front rest : List Token) → behind front rest ≡ [] → rest ≡ []
empty-view front [] e = refl
empty-view front (t ∷ others) e =
    let x = seen-next front t others in
    let f : x.token ∷ x.left ≡ [] = sym x.whole ∙ e in absurd cc

-- what is unexpected in a text is unexpected in its view
view-unexpected : (ts rest : List Token) (u : IsUnexpectedAt ts rest)
    → IsSeenUnexpected (worded ts) (behind u.front rest)
view-unexpected ts rest u = record {
  front = worded u.front;
  whole = ap worded u.whole ∙ worded-behind u.front rest;
  begun = begins-tree u.front u.begun;
  nested = subst (λ o. IsSome o) (sym (view-room max_nesting u.front)) u.nested;
  wrong = by rest refl;
  ended = λ f tree g. u.ended (empty-view u.front rest f) tree (sym g);
}
  where
    by : (r : List Token) → rest ≡ r → (v : Token) (left : List Token) → behind u.front rest ≡ v ∷ left
        → BeginsTree (worded u.front ++ v ∷ []) → ⊥
    by [] e v left f b =
        let g : [] ≡ v ∷ left = sym (none-behind u.front) ∙ ap (behind u.front) (sym e) ∙ f in absurd cc
    by (t ∷ others) e v left f b =
        let x = seen-next u.front t others in
        let same : x.token ≡ v = same-first x.token v x.left left (sym x.whole ∙ ap (behind u.front) (sym e) ∙ f) in
        u.wrong t others e
        (begins-text (u.front ++ t ∷ [])
        (subst BeginsTree (ap (λ w. worded u.front ++ w ∷ []) (sym same) ∙ sym (seen-one-more u.front t others x)) b))

append-length : (xs ys : List Token) → length (xs ++ ys) ≡ length xs + length ys
append-length [] ys = omega arith
append-length (x ∷ xs) ys = omega (arith, append-length xs ys)

cancel : (xs ys zs : List Token) → xs ++ zs ≡ ys ++ zs → xs ≡ ys
cancel [] [] zs e = refl
cancel [] (y ∷ ys) zs e =
    let l : length zs ≡ length (y ∷ ys ++ zs) = ap length e in absurd (omega (arith, l, append-length (y ∷ ys) zs))
cancel (x ∷ xs) [] zs e =
    let l : length (x ∷ xs ++ zs) ≡ length zs = ap length e in absurd (omega (arith, l, append-length (x ∷ xs) zs))
cancel (x ∷ xs) (y ∷ ys) zs e =
    let h : x ≡ y = cc in
    let t : xs ++ zs ≡ ys ++ zs = cc in
    ap (λ v. v ∷ xs) h ∙ ap (λ l. y ∷ l) (cancel xs ys zs t)

-- the view's front is that of the text's
same-front : (ts front rest seen seen_front : List Token) → ts ≡ front ++ rest → behind front rest ≡ seen
    → worded ts ≡ seen_front ++ seen → seen_front ≡ worded front
same-front ts front rest seen seen_front e g w =
    cancel seen_front (worded front) seen
    (sym w ∙ ap worded e ∙ worded-behind front rest ∙ ap (λ l. worded front ++ l) g)

-- and the other way
unexpected-found : (ts seen front rest : List Token) → ts ≡ front ++ rest → behind front rest ≡ seen
    → IsSeenUnexpected (worded ts) seen
    → (r : List Token) × (u : IsUnexpectedAt ts r) × (behind u.front r ≡ seen)
unexpected-found ts seen front rest e g u =
    let same : u.front ≡ worded front = same-front ts front rest seen u.front e g u.whole in (
      rest,
      record {
        front = front;
        whole = e;
        begun = begins-text front (subst BeginsTree same u.begun);
        nested = subst (λ o. IsSome o) (ap (room_left max_nesting) same ∙ view-room max_nesting front) u.nested;
        wrong = λ t others f b.
            let x = seen-next front t others in
            u.wrong x.token x.left (sym g ∙ ap (behind front) f ∙ x.whole)
            (subst BeginsTree (seen-one-more front t others x ∙ ap (λ l. l ++ x.token ∷ []) (sym same))
            (begins-tree (front ++ t ∷ []) b));
        ended = λ f tree h. u.ended (sym g ∙ ap (behind front) f ∙ none-behind front) tree (sym h ∙ sym same);
      },
      g,
    )

pub unexpected-exactly : (ts seen : List Token)
    → (read_program max_nesting (worded ts) ≡ Err (unexpected seen))
    ↔ ((rest : List Token) × (u : IsUnexpectedAt ts rest) × (behind u.front rest ≡ seen))
unexpected-exactly ts seen = (there, back)
  where
    there : read_program max_nesting (worded ts) ≡ Err (unexpected seen)
        → (rest : List Token) × (u : IsUnexpectedAt ts rest) × (behind u.front rest ≡ seen)
    there e =
        let u = unexpected-is (worded ts) seen e in
        let x = view-split ts u.front seen u.whole in
        unexpected-found ts seen x.0 x.1 x.2 x.4 u

    back : (rest : List Token) × (u : IsUnexpectedAt ts rest) × (behind u.front rest ≡ seen)
        → read_program max_nesting (worded ts) ≡ Err (unexpected seen)
    back x =
        is-unexpected (worded ts) seen (subst (IsSeenUnexpected (worded ts)) x.2 (view-unexpected ts x.0 x.1))

view-too-deep : (ts rest : List Token) (u : IsTooDeepAt ts rest) → IsSeenTooDeep (worded ts) (behind u.front rest)
view-too-deep ts rest u =
    let x = seen-next u.front u.bracket u.others in record {
      front = worded u.front;
      bracket = x.token;
      others = x.left;
      whole = ap worded u.whole ∙ worded-behind u.front rest;
      first = ap (behind u.front) u.first ∙ x.whole;
      opened = x.opening ∙ u.opened;
      full = view-room max_nesting u.front ∙ u.full;
      begun = subst BeginsTree (seen-one-more u.front u.bracket u.others x)
          (begins-tree (u.front ++ u.bracket ∷ []) u.begun);
    }

too-deep-found : (ts seen front rest : List Token) → ts ≡ front ++ rest → behind front rest ≡ seen
    → IsSeenTooDeep (worded ts) seen
    → (r : List Token) × (u : IsTooDeepAt ts r) × (behind u.front r ≡ seen)
too-deep-found ts seen front [] e g u =
    let f : [] ≡ u.bracket ∷ u.others = sym (none-behind front) ∙ g ∙ u.first in absurd cc
too-deep-found ts seen front (t ∷ others) e g u =
    let x = seen-next front t others in
    let same : u.front ≡ worded front = same-front ts front (t ∷ others) seen u.front e g u.whole in
    let it : x.token ≡ u.bracket = same-first x.token u.bracket x.left u.others (sym x.whole ∙ g ∙ u.first) in (
      t ∷ others,
      record {
        front = front;
        bracket = t;
        others = others;
        whole = e;
        first = refl;
        opened = sym x.opening ∙ ap opens it ∙ u.opened;
        full = sym (view-room max_nesting front) ∙ ap (room_left max_nesting) (sym same) ∙ u.full;
        begun = begins-text (front ++ t ∷ [])
            (subst BeginsTree
            (ap (λ l. l ++ u.bracket ∷ []) same ∙ ap (λ w. worded front ++ w ∷ []) (sym it)
            ∙ sym (seen-one-more front t others x))
            u.begun);
      },
      g,
    )

pub too-deep-exactly : (ts seen : List Token)
    → (read_program max_nesting (worded ts) ≡ Err (too_deep seen))
    ↔ ((rest : List Token) × (u : IsTooDeepAt ts rest) × (behind u.front rest ≡ seen))
too-deep-exactly ts seen = (there, back)
  where
    there : read_program max_nesting (worded ts) ≡ Err (too_deep seen)
        → (rest : List Token) × (u : IsTooDeepAt ts rest) × (behind u.front rest ≡ seen)
    there e =
        let u = too-deep-is (worded ts) seen e in
        let x = view-split ts u.front seen u.whole in
        too-deep-found ts seen x.0 x.1 x.2 x.4 u

    back : (rest : List Token) × (u : IsTooDeepAt ts rest) × (behind u.front rest ≡ seen)
        → read_program max_nesting (worded ts) ≡ Err (too_deep seen)
    back x = is-too-deep (worded ts) seen (subst (IsSeenTooDeep (worded ts)) x.2 (view-too-deep ts x.0 x.1))

-- each list is a text, or goes wrong at one place for one cause
abbrev pub IsOneOfThree : List Token → Type 0
IsOneOfThree ts =
    ((t : ProgramTree) × (worded ts ≡ spelling t) × Nests t)
    ⊎ (((rest : List Token) × IsUnexpectedAt ts rest) ⊎ ((rest : List Token) × IsTooDeepAt ts rest))

pub one-of-three : (ts : List Token) → IsOneOfThree ts
one-of-three ts = by (read_program max_nesting (worded ts)) refl
  where
    by : (r : Result ProgramTree Fault) → read_program max_nesting (worded ts) ≡ r → IsOneOfThree ts
    by (Ok t) e = let x = read-is-spelled max_nesting (worded ts) t e in inl (t, x.0, x.1)
    by (Err (unexpected seen)) e = let x = (unexpected-exactly ts seen).0 e in inr (inl (x.0, x.1))
    by (Err (too_deep seen)) e = let x = (too-deep-exactly ts seen).0 e in inr (inr (x.0, x.1))
