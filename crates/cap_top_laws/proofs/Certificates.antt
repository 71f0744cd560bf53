-- Whether a certificate refutes rows can be told.
use Rattle.std.proofs.Common.{◌≡◌, ◌⊎◌, inl, inr, ℕ, zero, suc, ◌+◌, ◌<◌, ◌≤◌, max, ℤ, pos, ◌<ℤ◌, Bool, true, false, List, [], ◌∷◌, ◌++◌, length, slice_get, Option, Some, None, refl, sym, ap, subst, ◌∙◌, arith}
use Rattle.std.specs.Prelude.{Decides}
use Rattle.std.proofs.lemmas.Bool.{cases_Bool, cases_lt}
use Rattle.std.proofs.lemmas.Bool.Decides.{Decides-int_eq}
use Rattle.std.proofs.lemmas.Int.{by_lt_z, ints}
use Rattle.std.specs.Ordering.{int_eq}
use Rattle.cap_lin.specs.Linear.{Linear}
use Rattle.cap_lin.specs.Steps.{first_wide}
use Rattle.cap_lin.specs.Rows.{row, below_zero, below_zero_steps, above_zero, above_zero_steps}
use Rattle.cap_lin.specs.declared.row.Row.{Row}
use Rattle.cap_lin.specs.declared.row.Sort.{Sort}
use Rattle.cap_lin.specs.declared.row.Kind.{Kind}
use Rattle.cap_lin.specs.declared.row.Kind.TheVariants.{Le, Lt, Eq, Ne}
use Rattle.cap_lin.proofs.Places.{coefficient-nil}
use Rattle.cap_farkas.specs.Farkas.{MayMultiply, row_at, Names, constant_of, coefficient_of, column_sum, Cancels, HasStrict, Contradicts, RefutesLeaf}
use Rattle.cap_farkas.specs.Refutes.{RefutesSplit, Refutes}
use Rattle.cap_farkas.specs.declared.cert.Cert.{Cert}
use Rattle.cap_farkas.specs.declared.cert.Cert.TheVariants.{Leaf, Split}
use Rattle.cap_farkas.proofs.Columns.{all}
use Rattle.cap_fm_spec.specs.Elimination.{width_of}
use Rattle.cap_fm_spec.proofs.Variables.{absent-above}

-- ---- what can be told

-- it is so, or it is not
abbrev pub EitherWay : Type 0 → Type 0
EitherWay P = P ⊎ (P → ⊥)

pub as-well : {P Q : Type 0} → (P → Q) → (Q → P) → EitherWay P → EitherWay Q
as-well f g (inl x) = inl (f x)
as-well f g (inr n) = inr (λ y. n (g y))

pub both : {P Q : Type 0} → EitherWay P → EitherWay Q → EitherWay (P × Q)
both (inl x) (inl y) = inl (x, y)
both (inl x) (inr n) = inr (λ h. n h.1)
both (inr n) e = inr (λ h. n h.0)

pub one-of : {P Q : Type 0} → EitherWay P → EitherWay Q → EitherWay (P ⊎ Q)
one-of (inl x) e = inl (inl x)
one-of (inr n) (inl y) = inl (inr y)
one-of {P} {Q} (inr n) (inr m) = inr by
  where
    by : P ⊎ Q → ⊥
    by (inl x) = n x
    by (inr y) = m y

tested : {P : Type 0} (b : Bool) → Decides b P → EitherWay P
tested {P} b d = by (cases_Bool b)
  where
    by : (b ≡ true) ⊎ (b ≡ false) → EitherWay P
    by (inl e) = inl (d.0 e)
    by (inr e) = inr (λ x. let f : false ≡ true = sym e ∙ d.1 x in cc)

same-number : (x y : ℤ) → EitherWay (x ≡ y)
same-number x y = tested (int_eq x y) (Decides-int_eq x y)

above-zero : (z : ℤ) → EitherWay (pos 0 <ℤ z)
above-zero z = by_lt_z (pos 0) z (λ h. inl h) (λ h. inr (λ l. omega (arith, ints)))

pub nothing-there : {A : Type 0} (o : Option A) → EitherWay (o ≡ None)
nothing-there None = inl refl
nothing-there (Some x) = inr (λ e. cc)

-- of all numbers below one
all-below : (P : ℕ → Type 0) → ((x : ℕ) → EitherWay (P x)) → (n : ℕ) → EitherWay ((x : ℕ) → x < n → P x)
all-below P f zero = inl (λ x h. absurd (omega arith))
all-below P f (suc n) = as-well join (λ h. (λ x l. h x (omega arith), h n (omega arith))) (both (all-below P f n) (f n))
  where
    join : ((x : ℕ) → x < n → P x) × P n → (x : ℕ) → x < suc n → P x
    join h x l = by (cases_lt x n)
      where
        by : (x < n) ⊎ (n ≤ x) → P x
        by (inl k) = h.0 x k
        by (inr k) = let e : n ≡ x = omega arith in subst P e h.1

-- ---- a leaf

kind-is-strict : (k : Kind) → EitherWay (k ≡ Lt)
kind-is-strict Le = inr (λ e. cc)
kind-is-strict Lt = inl refl
kind-is-strict Eq = inr (λ e. cc)
kind-is-strict Ne = inr (λ e. cc)

may-multiply : (k : Kind) (z : ℤ) → EitherWay (MayMultiply k z)
may-multiply Le z = above-zero z
may-multiply Lt z = above-zero z
may-multiply Eq z = by (same-number z (pos 0))
  where
    by : EitherWay (z ≡ pos 0) → EitherWay (z ≡ pos 0 → ⊥)
    by (inl e) = inr (λ n. n e)
    by (inr n) = inl n
may-multiply Ne z = inr (λ h. h)

pub less : (m n : ℕ) → EitherWay (m < n)
less m n = by (cases_lt m n)
  where
    by : (m < n) ⊎ (n ≤ m) → EitherWay (m < n)
    by (inl h) = inl h
    by (inr h) = inr (λ l. omega arith)

pub at-most : (m n : ℕ) → EitherWay (m ≤ n)
at-most m n = by (cases_lt n m)
  where
    by : (n < m) ⊎ (m ≤ n) → EitherWay (m ≤ n)
    by (inl h) = inr (λ l. omega arith)
    by (inr h) = inl h

names : (low : ℕ) (rows : List Row) (leaf : List (ℕ × ℤ)) → EitherWay (Names low rows leaf)
unfolding Names
names low rows [] = inl tt
names low rows (p ∷ ps) =
    as-well (λ h. (h.0.0, h.0.1, h.1.0, h.1.1)) (λ h. ((h.0, h.1), (h.2, h.3)))
    (both (both (at-most low p.0) (less p.0 (length rows)))
    (both (may-multiply (row_at rows p.0).kind p.1) (names (p.0 + 1) rows ps)))

has-strict : (rows : List Row) (leaf : List (ℕ × ℤ)) → EitherWay (HasStrict rows leaf)
unfolding HasStrict
has-strict rows [] = inr (λ h. h)
has-strict rows (p ∷ ps) = one-of (kind-is-strict (row_at rows p.0).kind) (has-strict rows ps)

contradicts : (rows : List Row) (leaf : List (ℕ × ℤ)) (sum : ℤ) → EitherWay (Contradicts rows leaf sum)
contradicts rows leaf sum = one-of (above-zero sum) (both (same-number sum (pos 0)) (has-strict rows leaf))

cancels-at : (rows : List Row) (leaf : List (ℕ × ℤ)) (x : ℕ) → EitherWay (Cancels rows leaf x)
cancels-at rows leaf x =
    as-well (λ h. record { narrow = h.0; zero_sum = h.1 }) (λ (h : Cancels rows leaf x). (h.narrow, h.zero_sum))
    (both (nothing-there _) (same-number (column_sum (coefficient_of x) rows (pos 0) leaf) (pos 0)))

-- from this number on no variable is in any row
bound : List Row → ℕ
bound [] = 0
bound (r ∷ rows) = max (width_of r.term.parts) (bound rows)

absent-from : (rows : List Row) (i x : ℕ) → bound rows ≤ x → coefficient_of x (row_at rows i).term ≡ pos 0
unfolding bound
absent-from [] i x h = coefficient-nil x
absent-from (r ∷ rows) zero x h = absent-above x r.term.parts (omega arith)
absent-from (r ∷ rows) (suc i) x h = absent-from rows i x (omega arith)

all-cancel : (rows : List Row) (leaf : List (ℕ × ℤ)) → EitherWay ((x : ℕ) → Cancels rows leaf x)
all-cancel rows leaf = as-well
    (λ h. (all rows leaf (bound rows) h (λ x l k m. absent-from rows _ x l)).0 refl)
    (λ h x l. h x)
    (all-below (Cancels rows leaf) (cancels-at rows leaf) (bound rows))

refutes-leaf : (rows : List Row) (leaf : List (ℕ × ℤ)) → EitherWay (RefutesLeaf rows leaf)
refutes-leaf rows leaf =
    as-well
    (λ h. record { names = h.0.0; constant = h.0.1; cancels = h.1.0; contradicts = h.1.1 })
    (λ (h : RefutesLeaf rows leaf). ((h.names, h.constant), (h.cancels, h.contradicts)))
    (both (both (names 0 rows leaf) (nothing-there _))
    (both (all-cancel rows leaf) (contradicts rows leaf (column_sum constant_of rows (pos 0) leaf))))

-- ---- a split

module _ (rows : List Row) (place : ℕ) (below above : List (ℕ × ℤ)) where
  -- both sides of a row are refuted
  abbrev SidesRefuted : Row → Type 0
  SidesRefuted r =
      ((first_wide (below_zero_steps r.sort r.term) ≡ None) × RefutesLeaf (rows ++ below_zero r.sort r.term ∷ []) below)
      × ((first_wide (above_zero_steps r.sort r.term) ≡ None) × RefutesLeaf (rows ++ above_zero r.sort r.term ∷ []) above)

  sides-refuted : (r : Row) → EitherWay (SidesRefuted r)
  sides-refuted r = both (both (nothing-there _) (refutes-leaf _ below)) (both (nothing-there _) (refutes-leaf _ above))

  same-row : (o : Option Row) (r q : Row) → o ≡ Some r → o ≡ Some q → r ≡ q
  same-row o r q e f = let g : Some r ≡ Some q = sym e ∙ f in cc

  splits-at : (s : Sort) (t : Linear) → slice_get rows place ≡ Some (row Ne s t) → EitherWay (RefutesSplit rows place below above)
  splits-at s t e =
      as-well
      (λ h. record {
        term = t;
        sort = s;
        is = e;
        below_narrow = h.0.0;
        below_refuted = h.0.1;
        above_narrow = h.1.0;
        above_refuted = h.1.1;
      })
      (λ (h : RefutesSplit rows place below above).
      subst SidesRefuted (same-row (slice_get rows place) (row Ne h.sort h.term) (row Ne s t) h.is e)
      ((h.below_narrow, h.below_refuted), (h.above_narrow, h.above_refuted)))
      (sides-refuted (row Ne s t))

  no-split : (k : Kind) (s : Sort) (t : Linear) → slice_get rows place ≡ Some (row k s t) → (k ≡ Ne → ⊥) → EitherWay (RefutesSplit rows place below above)
  no-split k s t e n = inr (λ (h : RefutesSplit rows place below above). n (ap (λ (r : Row). r.kind) (same-row (slice_get rows place) (row k s t) (row Ne h.sort h.term) e h.is)))

  by-kind : (k : Kind) (s : Sort) (t : Linear) → slice_get rows place ≡ Some (row k s t) → EitherWay (RefutesSplit rows place below above)
  by-kind Le s t e = no-split Le s t e (λ f. cc)
  by-kind Lt s t e = no-split Lt s t e (λ f. cc)
  by-kind Eq s t e = no-split Eq s t e (λ f. cc)
  by-kind Ne s t e = splits-at s t e

  by-row : (o : Option Row) → slice_get rows place ≡ o → EitherWay (RefutesSplit rows place below above)
  by-row None e = inr (λ (h : RefutesSplit rows place below above). let f : None ≡ Some (row Ne h.sort h.term) = sym e ∙ h.is in cc)
  by-row (Some r) e = by-kind r.kind r.sort r.term e

  refutes-split : EitherWay (RefutesSplit rows place below above)
  refutes-split = by-row (slice_get rows place) refl

pub refutes-or-not : (rows : List Row) (c : Cert) → EitherWay (Refutes rows c)
refutes-or-not rows (Leaf leaf) = refutes-leaf rows leaf
refutes-or-not rows (Split place below above) = refutes-split rows place below above
