-- What is left behind blanks and comments, byte by byte.
use Rattle.std.proofs.Common.{◌≡◌, refl, ℕ, ◌+◌, ◌-◌, ◌<◌, ◌≤◌, Bool, true, false, cond, not, eqb, List, [], ◌∷◌, length, get_or, take, drop, sym, ap, subst, ◌∙◌}
use Rattle.std.proofs.lemmas.Bool.{cond-true, cond-false}
use Rattle.std.proofs.lemmas.List.{drop_more, drop_all, take_rest}
use Rattle.std.specs.Prelude.{codes}
use Rattle.std.specs.Str.{bytes_eq}
use Rattle.cap_syntax.specs.Layout.{is_blank, begins_comment, past_gap, past_comment}

-- what is left behind the rest of a comment, or behind a gap
abbrev pub behind_gap : (in_comment : Bool) → List ℕ → List ℕ
behind_gap true rest = past_comment rest
behind_gap false rest = past_gap rest

comment_goes_on : (b : ℕ) (bs : List ℕ) → behind_gap true (b ∷ bs) ≡ behind_gap (not (eqb b 10)) bs
unfolding past_gap past_comment
comment_goes_on b bs = elim (eqb b 10) as (λ t. cond t (past_gap bs) (past_comment bs) ≡ behind_gap (not t) bs) [ true ↦ refl | false ↦ refl ]

gap_opens : (b : ℕ) (bs : List ℕ) → begins_comment (b ∷ bs) ≡ true → behind_gap false (b ∷ bs) ≡ behind_gap true bs
unfolding past_gap past_comment
gap_opens b bs opens = cond-true _ _ _ opens

pub gap_blank : (b : ℕ) (bs : List ℕ) → begins_comment (b ∷ bs) ≡ false → is_blank b ≡ true → behind_gap false (b ∷ bs) ≡ behind_gap false bs
unfolding past_gap past_comment
gap_blank b bs opens blank = cond-false _ _ _ opens ∙ cond-true _ _ _ blank

pub gap_stops : (b : ℕ) (bs : List ℕ) → begins_comment (b ∷ bs) ≡ false → is_blank b ≡ false → behind_gap false (b ∷ bs) ≡ b ∷ bs
unfolding past_gap past_comment
gap_stops b bs opens blank = cond-false _ _ _ opens ∙ cond-false _ _ _ blank

-- the same at an index

module _ (xs : List ℕ) (i : ℕ) (lt : i < length xs) where
  abbrev cut : drop i xs ≡ get_or xs i 0 ∷ drop (i + 1) xs
  cut = drop_more xs i 0 lt

  pub goes_on : behind_gap true (drop i xs) ≡ behind_gap (not (eqb (get_or xs i 0) 10)) (drop (i + 1) xs)
  unfolding past_gap past_comment
  goes_on = ap (behind_gap true) cut ∙ comment_goes_on (get_or xs i 0) (drop (i + 1) xs)

  pub opens_at : begins_comment (drop i xs) ≡ true → behind_gap false (drop i xs) ≡ behind_gap true (drop (i + 1) xs)
  opens_at opens = ap (behind_gap false) cut ∙ gap_opens _ _ (subst (λ r. begins_comment r ≡ true) cut opens)

  pub blank_at : begins_comment (drop i xs) ≡ false → is_blank (get_or xs i 0) ≡ true → behind_gap false (drop i xs) ≡ behind_gap false (drop (i + 1) xs)
  blank_at opens blank = ap (behind_gap false) cut ∙ gap_blank _ _ (subst (λ r. begins_comment r ≡ false) cut opens) blank

  pub stops_at : begins_comment (drop i xs) ≡ false → is_blank (get_or xs i 0) ≡ false → behind_gap false (drop i xs) ≡ drop i xs
  stops_at opens blank = ap (behind_gap false) cut ∙ gap_stops _ _ (subst (λ r. begins_comment r ≡ false) cut opens) blank ∙ sym cut

pub nothing_behind : (in_comment : Bool) (xs : List ℕ) (n : ℕ) → length xs ≤ n → behind_gap in_comment (drop n xs) ≡ []
unfolding past_gap past_comment
nothing_behind true xs n le = ap past_comment (drop_all n xs le)
nothing_behind false xs n le = ap past_gap (drop_all n xs le)

-- what the code reads of two bytes at an index
pub opens_is : (xs : List ℕ) (i : ℕ) (r : Bool) → r ≡ bytes_eq (codes "//") (take 2 (take (length xs - i) (drop i xs))) → begins_comment (drop i xs) ≡ r
opens_is xs i r e = ap begins_comment (sym (take_rest xs i)) ∙ sym e

-- ---- one step of the loop

module _ (xs : List ℕ) (i : ℕ) (in_comment : Bool) (lt : i < length xs) (so_far : behind_gap in_comment (drop i xs) ≡ behind_gap false xs) where
  at_mode : (mode : Bool) → in_comment ≡ mode → behind_gap mode (drop i xs) ≡ behind_gap false xs
  at_mode mode e = ap (λ b. behind_gap b (drop i xs)) (sym e) ∙ so_far

  pub step_in_comment : (next : Bool) → in_comment ≡ true → next ≡ not (eqb (get_or xs i 0) 10) → behind_gap next (drop (i + 1) xs) ≡ behind_gap false xs
  step_in_comment next e n = rw n (sym (goes_on xs i lt) ∙ at_mode true e)

  pub step_opens : (next : Bool) → in_comment ≡ false → begins_comment (drop i xs) ≡ true → next ≡ true → behind_gap next (drop (i + 1) xs) ≡ behind_gap false xs
  step_opens next e opens n = rw n (sym (opens_at xs i lt opens) ∙ at_mode false e)

  pub step_blank : (next : Bool) → in_comment ≡ false → begins_comment (drop i xs) ≡ false → is_blank (get_or xs i 0) ≡ true → next ≡ false → behind_gap next (drop (i + 1) xs) ≡ behind_gap false xs
  step_blank next e opens blank n = rw n (sym (blank_at xs i lt opens blank) ∙ at_mode false e)

  pub step_stops : in_comment ≡ false → begins_comment (drop i xs) ≡ false → is_blank (get_or xs i 0) ≡ false → drop i xs ≡ behind_gap false xs
  step_stops e opens blank = sym (stops_at xs i lt opens blank) ∙ at_mode false e
