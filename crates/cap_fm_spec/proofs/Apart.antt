-- Rows Ne one after the other: where each has a solution of the other rows on one of its sides, one solution of the other
-- rows solves all of them.
use Rattle.std.proofs.Common.{◌≡◌, ◌≢◌, ℕ, zero, suc, ℤ, pos, negsuc, ◌+◌, ◌*◌, ◌<◌, ◌+ℤ◌, ◌*ℤ◌, ◌<ℤ◌, List, [], ◌∷◌, ◌++◌, arith, refl, sym, ◌∙◌, subst, ◌⊎◌, inl, inr}
use Rattle.std.specs.List.{AllByRecursion}
use Rattle.std.proofs.lemmas.Int.{ints}
use Rattle.cap_numbers.proofs.Ring.{expand, product3}
use Rattle.cap_numbers.proofs.Order.{mul-le, sign_of}
use Rattle.cap_lin.specs.Linear.{Linear, negative, plus_one}
use Rattle.cap_lin.specs.Values.{RationalValuation, denominator, parts_value, amount}
use Rattle.cap_lin.specs.Rows.{below_zero, above_zero}
use Rattle.cap_lin.specs.Solves.{HoldsAs, HoldsRationally, SolvesRationally, kept, without_ne}
use Rattle.cap_lin.specs.declared.row.Row.{Row}
use Rattle.cap_lin.specs.declared.row.Sort.{Sort}
use Rattle.cap_lin.specs.declared.row.Sort.TheVariants.{Int, Perm}
use Rattle.cap_lin.specs.declared.row.Kind.{Kind}
use Rattle.cap_lin.specs.declared.row.Kind.TheVariants.{Le, Lt, Eq, Ne}
use Rattle.cap_lin.proofs.Values.{value-nil, value-cons, amount-times}
use Rattle.cap_fm_spec.proofs.Lists.{each-left, each-right, each-two}

-- ---- a valuation between two: n times one, plus the other, over the sum of the denominators

blend : ℕ → RationalValuation → RationalValuation → RationalValuation
blend n q p = record { numerator = λ y. pos n *ℤ q.numerator y +ℤ p.numerator y; under = n * (q.under + 1) + p.under }

blend-parts : (n : ℕ) (f g : ℕ → ℤ) (ps : List (ℕ × ℤ)) → parts_value (λ y. pos n *ℤ f y +ℤ g y) ps ≡ pos n *ℤ parts_value f ps +ℤ parts_value g ps
blend-parts n f g [] = rw (value-nil (λ y. pos n *ℤ f y +ℤ g y), value-nil f, value-nil g) (omega (arith, ints))
blend-parts n f g (p ∷ ps) = rw (value-cons (λ y. pos n *ℤ f y +ℤ g y) p ps, value-cons f p ps, value-cons g p ps, blend-parts n f g ps) (simp expand (omega (arith, ints, product3)))

blend-under : (n u v : ℕ) → pos (n * (u + 1) + v + 1) ≡ pos n *ℤ pos (u + 1) +ℤ pos (v + 1)
blend-under n u v = omega (arith, ints)

blend-amount : (n : ℕ) (q p : RationalValuation) (t : Linear) → amount (blend n q p) t ≡ pos n *ℤ amount q t +ℤ amount p t
unfolding amount blend
blend-amount n q p t = rw (blend-parts n q.numerator p.numerator t.parts, blend-under n q.under p.under) (simp expand (omega (arith, ints, product3)))

-- a row that is not Ne holds between two valuations under which it holds
blend-row : (n : ℕ) (q p : RationalValuation) (r : Row) → (r.kind ≡ Ne → ⊥) → HoldsRationally q r → HoldsRationally p r → HoldsRationally (blend n q p) r
blend-row n q p r k h i = subst (HoldsAs r.kind) (sym (blend-amount n q p r.term)) (by_kind r.kind (amount q r.term) (amount p r.term) k h i)
  where
    by_kind : (k : Kind) (y z : ℤ) → (k ≡ Ne → ⊥) → HoldsAs k y → HoldsAs k z → HoldsAs k (pos n *ℤ y +ℤ z)
    by_kind Le y z k h i = let l = mul-le (pos n) y (pos 0) (omega (arith, ints)) h in omega (arith, ints)
    by_kind Lt y z k h i = let l = mul-le (pos n) y (pos 0) (omega (arith, ints)) (omega (arith, ints)) in omega (arith, ints)
    by_kind Eq y z k h i = rw (h, i) (omega (arith, ints))
    by_kind Ne y z k h i = absurd (k refl)

abbrev AreKept : List Row → Type 0
AreKept rows = AllByRecursion (λ r. r.kind ≡ Ne → ⊥) rows

blend-solves : (n : ℕ) (q p : RationalValuation) (rows : List Row) → AreKept rows → SolvesRationally q rows → SolvesRationally p rows → SolvesRationally (blend n q p) rows
blend-solves n q p [] k h i = tt
blend-solves n q p (r ∷ rows) k h i = (blend-row n q p r k.0 h.0 i.0, blend-solves n q p rows k.1 h.1 i.1)

-- ---- terms that are not 0

abbrev Apart : RationalValuation → Linear → Type 0
Apart q t = amount q t ≢ pos 0

abbrev size : ℤ → ℕ
size (pos n) = n
size (negsuc n) = suc n

-- a multiple is larger than a number that is less than the factor
larger : (n : ℕ) (y z : ℤ) → (y ≡ pos 0 → ⊥) → size z < n → pos n *ℤ y +ℤ z ≡ pos 0 → ⊥
larger n (pos zero) z h l e = h refl
larger n (pos (suc k)) (pos m) h l e = absurd (omega (arith, ints))
larger n (pos (suc k)) (negsuc m) h l e = absurd (omega (arith, ints))
larger n (negsuc k) (pos m) h l e = absurd (omega (arith, ints))
larger n (negsuc k) (negsuc m) h l e = absurd (omega (arith, ints))

-- one more than the sum of the sizes of terms
enough : RationalValuation → List Linear → ℕ
enough p [] = 1
enough p (t ∷ ts) = size (amount p t) + enough p ts

below-enough : (p : RationalValuation) (ts : List Linear) (n : ℕ) → enough p ts < n + 1 → AllByRecursion (λ t. size (amount p t) < n) ts
unfolding enough
below-enough p [] n h = tt
below-enough p (t ∷ ts) n h = (omega (arith, positive ts), below-enough p ts n (omega arith))
  where
    positive : (us : List Linear) → 0 < enough p us
    positive [] = omega arith
    positive (u ∷ us) = let l = positive us in omega arith

blend-apart : (p q : RationalValuation) (ts : List Linear) → AllByRecursion (Apart q) ts → AllByRecursion (Apart (blend (enough p ts) q p)) ts
blend-apart p q ts h = each-two _ _ _ ts h (below-enough p ts (enough p ts) (omega arith)) one
  where
    one : (t : Linear) → amount q t ≢ pos 0 → size (amount p t) < enough p ts → amount (blend (enough p ts) q p) t ≢ pos 0
    one t k l e = larger (enough p ts) (amount q t) (amount p t) k l (sym (blend-amount (enough p ts) q p t) ∙ e)

-- where the first is 0, the second alone matters
second-apart : (n : ℕ) (q p : RationalValuation) (t : Linear) → amount q t ≡ pos 0 → Apart p t → Apart (blend n q p) t
second-apart n q p t e h d =
    let b : pos n *ℤ amount q t +ℤ amount p t ≡ pos 0 = sym (blend-amount n q p t) ∙ d in
    let z : pos n *ℤ amount q t ≡ pos 0 = rw e (omega (arith, ints)) in
    h (omega (arith, ints))

-- ---- one solution for all

pub record SolvesApart (rows : List Row) (t : Linear) : Type 0 where
  pub valuation : RationalValuation
  pub solves : SolvesRationally valuation rows
  pub apart : amount valuation t ≢ pos 0

record SolvesAll (rows : List Row) (ts : List Linear) : Type 0 where
  valuation : RationalValuation
  solves : SolvesRationally valuation rows
  apart : AllByRecursion (Apart valuation) ts

all-apart : (rows : List Row) (ts : List Linear) (q : RationalValuation) → AreKept rows → SolvesRationally q rows → AllByRecursion (SolvesApart rows) ts → SolvesAll rows ts
all-apart rows [] q k h a = record { valuation = q; solves = h; apart = tt }
all-apart rows (t ∷ ts) q k h a = by_sign (all-apart rows ts q k h a.1)
  where
    other : (s : SolvesAll rows ts) → (amount s.valuation t ≢ pos 0) → SolvesAll rows (t ∷ ts)
    other s n = record { valuation = s.valuation; solves = s.solves; apart = (n, s.apart) }

    at_zero : (s : SolvesAll rows ts) → amount s.valuation t ≡ pos 0 → SolvesAll rows (t ∷ ts)
    at_zero s e = record {
      valuation = blend (enough a.0.valuation ts) s.valuation a.0.valuation;
      solves = blend-solves _ _ _ rows k s.solves a.0.solves;
      apart = (second-apart _ s.valuation a.0.valuation t e a.0.apart, blend-apart a.0.valuation s.valuation ts s.apart);
    }

    by_sign : SolvesAll rows ts → SolvesAll rows (t ∷ ts)
    by_sign s = elim (sign_of (amount s.valuation t)) [
      | inl b ↦ other s (λ e. absurd (omega (arith, ints)))
      | inr (inl e) ↦ at_zero s e
      | inr (inr g) ↦ other s (λ e. absurd (omega (arith, ints)))
    ]

-- ---- a term on one side of 0

plus-one-amount : (q : RationalValuation) (t : Linear) → amount q (plus_one t) ≡ amount q t +ℤ denominator q
unfolding amount
plus-one-amount q t = simp expand (omega (arith, ints))

pub below-apart : (q : RationalValuation) (s : Sort) (t : Linear) → HoldsRationally q (below_zero s t) → amount q t <ℤ pos 0
below-apart q Int t h = let e = plus-one-amount q t in omega (arith, ints)
below-apart q Perm t h = h

-- a row Ne, with a solution of the other rows on one of its sides
abbrev pub SolvesSide : List Row → Row → Type 0
SolvesSide rows r = (q : RationalValuation) × (SolvesRationally q (rows ++ below_zero r.sort r.term ∷ []) ⊎ SolvesRationally q (rows ++ above_zero r.sort r.term ∷ []))

side-apart : (rows : List Row) (r : Row) → SolvesSide rows r → SolvesApart rows r.term
side-apart rows r h = by_side h.0 h.1
  where
    by_side : (q : RationalValuation) → SolvesRationally q (rows ++ below_zero r.sort r.term ∷ []) ⊎ SolvesRationally q (rows ++ above_zero r.sort r.term ∷ []) → SolvesApart rows r.term
    by_side q (inl h) =
        let b = below-apart q r.sort r.term (each-right _ rows _ h).0 in
        record { valuation = q; solves = each-left _ rows _ h; apart = λ e. absurd (omega (arith, ints)) }
    by_side q (inr h) =
        let b = below-apart q r.sort (negative r.term) (each-right _ rows _ h).0 in
        let e = amount-times q (negsuc 0) r.term in
        record { valuation = q; solves = each-left _ rows _ h; apart = λ d. absurd (omega (arith, ints)) }

-- ---- all rows

-- the terms of the rows Ne
abbrev ne_terms_of : Kind → Linear → List Linear → List Linear
ne_terms_of Ne t ts = t ∷ ts
ne_terms_of k t ts = ts

abbrev ne_terms : List Row → List Linear
ne_terms [] = []
ne_terms (r ∷ rows) = ne_terms_of r.kind r.term (ne_terms rows)

without-kept : (rows : List Row) → AreKept (without_ne rows)
without-kept [] = tt
without-kept (r ∷ rows) = by_kind r.kind refl (without-kept rows)
  where
    by_kind : (k : Kind) → r.kind ≡ k → AllByRecursion (λ r. r.kind ≡ Ne → ⊥) (without_ne rows) → AllByRecursion (λ r. r.kind ≡ Ne → ⊥) (kept k r (without_ne rows))
    by_kind Le e h = (λ d. cc, h)
    by_kind Lt e h = (λ d. cc, h)
    by_kind Eq e h = (λ d. cc, h)
    by_kind Ne e h = h

terms-apart : (others rows : List Row) → AllByRecursion (λ r. r.kind ≡ Ne → SolvesSide others r) rows → AllByRecursion (SolvesApart others) (ne_terms rows)
terms-apart others [] h = tt
terms-apart others (r ∷ rows) h = by_kind r.kind h.0 (terms-apart others rows h.1)
  where
    by_kind : (k : Kind) → (k ≡ Ne → SolvesSide others r) → AllByRecursion (SolvesApart others) (ne_terms rows) → AllByRecursion (SolvesApart others) (ne_terms_of k r.term (ne_terms rows))
    by_kind Le f h = h
    by_kind Lt f h = h
    by_kind Eq f h = h
    by_kind Ne f h = (side-apart others r (f refl), h)

all-rows : (q : RationalValuation) (rows : List Row) → SolvesRationally q (without_ne rows) → AllByRecursion (Apart q) (ne_terms rows) → SolvesRationally q rows
all-rows q [] h a = tt
all-rows q (r ∷ rows) h a = by_kind r.kind refl (λ h a. all-rows q rows h a) h a
  where
    turned : (k : Kind) → r.kind ≡ k → HoldsAs k (amount q r.term) → HoldsRationally q r
    turned k e h = subst (λ l. HoldsAs l (amount q r.term)) (sym e) h

    by_kind : (k : Kind) → r.kind ≡ k → (SolvesRationally q (without_ne rows) → AllByRecursion (λ t. amount q t ≢ pos 0) (ne_terms rows) → SolvesRationally q rows) → SolvesRationally q (kept k r (without_ne rows)) → AllByRecursion (λ t. amount q t ≢ pos 0) (ne_terms_of k r.term (ne_terms rows)) → SolvesRationally q (r ∷ rows)
    by_kind Le e ih h a = (h.0, ih h.1 a)
    by_kind Lt e ih h a = (h.0, ih h.1 a)
    by_kind Eq e ih h a = (h.0, ih h.1 a)
    by_kind Ne e ih h a = (turned Ne e a.0, ih h a.1)

-- rows that have a solution without those Ne, and one on a side of each of these, have a solution
pub generic : (rows : List Row) (q : RationalValuation) → SolvesRationally q (without_ne rows) → AllByRecursion (λ r. r.kind ≡ Ne → SolvesSide (without_ne rows) r) rows → (w : RationalValuation) × SolvesRationally w rows
generic rows q h s =
    let a = all-apart (without_ne rows) (ne_terms rows) q (without-kept rows) h (terms-apart (without_ne rows) rows s) in
    (a.valuation, all-rows a.valuation rows a.solves a.apart)
