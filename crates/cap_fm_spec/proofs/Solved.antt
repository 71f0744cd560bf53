-- Where elimination finds no certificate of rows, some rational valuation solves them.
use Rattle.std.proofs.Common.{◌≡◌, ℕ, zero, suc, ℤ, negsuc, ◌+◌, List, [], ◌∷◌, ◌++◌, refl, sym, ap, subst, Option, Some, None, inl, inr}
use Rattle.std.specs.Prelude.{option_map, slice_get}
use Rattle.std.specs.List.{AllByRecursion}
use Rattle.cap_lin.specs.Linear.{Linear, AscendFrom, times, negative}
use Rattle.cap_lin.specs.Values.{RationalValuation}
use Rattle.cap_lin.specs.Rows.{row, below_zero, below_zero_steps, above_zero, above_zero_steps}
use Rattle.cap_lin.specs.Solves.{SolvesRationally, kept, without_ne, SplitsToNone, Infeasible}
use Rattle.cap_lin.specs.declared.row.Row.{Row}
use Rattle.cap_lin.specs.declared.row.Sort.{Sort}
use Rattle.cap_lin.specs.declared.row.Sort.TheVariants.{Int, Perm}
use Rattle.cap_lin.specs.declared.row.Kind.{Kind}
use Rattle.cap_lin.specs.declared.row.Kind.TheVariants.{Le, Lt, Eq, Ne}
use Rattle.cap_lin.proofs.Ascend.{multiple-ascends}
use Rattle.cap_farkas.specs.declared.cert.Cert.{Cert}
use Rattle.cap_fm_spec.specs.Runs.{Entry, at_first, Found, going, contradiction}
use Rattle.cap_fm_spec.specs.Elimination.{eliminated}
use Rattle.cap_fm_spec.specs.Solving.{RowsAscend, leaf_found, refuted, refuted_with, then_above, split, or_next, splits, or_splits, solved}
use Rattle.cap_fm_spec.proofs.Lists.{each-join}
use Rattle.cap_fm_spec.proofs.Complete.{complete}
use Rattle.cap_fm_spec.proofs.Apart.{SolvesSide, generic}

some-none : {A : Type 0} (B : Type 0) (x : A) → Some x ≡ None → B
some-none B x e = absurd (cc)

-- ---- one elimination

refuted-none : (rows : List Row) → RowsAscend rows → (refuted rows).value ≡ None → (q : RationalValuation) × SolvesRationally q (without_ne rows)
unfolding refuted
refuted-none rows a e = by_found (eliminated rows at_first).found refl e
  where
    by_found : (g : Found (List Entry)) → (eliminated rows at_first).found ≡ g → (leaf_found rows (eliminated rows at_first).events (eliminated rows at_first).stage g).value ≡ None → (q : RationalValuation) × SolvesRationally q (without_ne rows)
    by_found (going rest) d e = complete rows rest a d
    by_found (contradiction c) d e = some-none _ _ e

-- ---- with a row behind the others

push-kept : (rows : List Row) (r : Row) → kept r.kind r [] ≡ r ∷ [] → without_ne (rows ++ r ∷ []) ≡ without_ne rows ++ r ∷ []
push-kept [] r e = e
push-kept (x ∷ xs) r e = by_kind x.kind (push-kept xs r e)
  where
    by_kind : (k : Kind) → without_ne (xs ++ r ∷ []) ≡ without_ne xs ++ r ∷ [] → kept k x (without_ne (xs ++ r ∷ [])) ≡ kept k x (without_ne xs) ++ r ∷ []
    by_kind Le i = ap (λ rs. x ∷ rs) i
    by_kind Lt i = ap (λ rs. x ∷ rs) i
    by_kind Eq i = ap (λ rs. x ∷ rs) i
    by_kind Ne i = i

below-kept : (s : Sort) (t : Linear) → kept (below_zero s t).kind (below_zero s t) [] ≡ below_zero s t ∷ []
below-kept Int t = refl
below-kept Perm t = refl

pub below-ascends : (s : Sort) (t : Linear) → AscendFrom 0 t.parts → AscendFrom 0 (below_zero s t).term.parts
below-ascends Int t a = a
below-ascends Perm t a = a

pub negative-ascends : (t : Linear) → AscendFrom 0 t.parts → AscendFrom 0 (negative t).parts
unfolding times
negative-ascends t a = multiple-ascends 0 (negsuc 0) t.parts a

side-none : (rows : List Row) (s : Sort) (t : Linear) → RowsAscend rows → AscendFrom 0 t.parts → (refuted (rows ++ below_zero s t ∷ [])).value ≡ None → (q : RationalValuation) × SolvesRationally q (without_ne rows ++ below_zero s t ∷ [])
side-none rows s t a b e =
    let h = refuted-none (rows ++ below_zero s t ∷ []) (each-join _ rows _ a (below-ascends s t b, tt)) e in
    (h.0, subst (SolvesRationally h.0) (push-kept rows (below_zero s t) (below-kept s t)) h.1)

-- ---- a row Ne without a split

map-none : {A B : Type 0} (f : A → B) (o : Option A) → option_map f o ≡ None → o ≡ None
map-none f None e = refl
map-none f (Some x) e = some-none _ _ e

split-none : (rows : List Row) (place : ℕ) (r : Row) → RowsAscend rows → AscendFrom 0 r.term.parts → (split rows place r.kind r.sort r.term).value ≡ None → r.kind ≡ Ne → SolvesSide (without_ne rows) r
split-none rows place r a b e k = by_below (refuted_with rows (below_zero_steps r.sort r.term) (below_zero r.sort r.term)).value refl (subst (λ l. (split rows place l r.sort r.term).value ≡ None) k e)
  where
    by_below : (o : Option (List (ℕ × ℤ))) → (refuted_with rows (below_zero_steps r.sort r.term) (below_zero r.sort r.term)).value ≡ o → (then_above place (refuted_with rows (below_zero_steps r.sort r.term) (below_zero r.sort r.term)).events o (refuted_with rows (above_zero_steps r.sort r.term) (above_zero r.sort r.term))).value ≡ None → SolvesSide (without_ne rows) r
    by_below None d e = let h = side-none rows r.sort r.term a b d in (h.0, inl h.1)
    by_below (Some l) d e = let h = side-none rows r.sort (negative r.term) a (negative-ascends r.term b) (map-none _ _ e) in (h.0, inr h.1)

splits-none : (rows : List Row) (place : ℕ) (rest : List Row) → RowsAscend rows → RowsAscend rest → (splits rows place rest).value ≡ None → AllByRecursion (λ r. r.kind ≡ Ne → SolvesSide (without_ne rows) r) rest
unfolding splits
splits-none rows place [] a b e = tt
splits-none rows place (r ∷ rest) a b e = by_first (split rows place r.kind r.sort r.term).value refl (splits-none rows (place + 1) rest a b.1) e
  where
    by_first : (o : Option Cert) → (split rows place r.kind r.sort r.term).value ≡ o → ((splits rows (place + 1) rest).value ≡ None → AllByRecursion (λ r. r.kind ≡ Ne → SolvesSide (without_ne rows) r) rest) → (or_next (split rows place r.kind r.sort r.term).events o (splits rows (place + 1) rest)).value ≡ None → AllByRecursion (λ r. r.kind ≡ Ne → SolvesSide (without_ne rows) r) (r ∷ rest)
    by_first None d ih e = (split-none rows place r a b.0 d, ih e)
    by_first (Some c) d ih e = some-none _ _ e

-- ---- the whole

pub solved-complete : (rows : List Row) → RowsAscend rows → (solved rows).value ≡ None → (q : RationalValuation) × SolvesRationally q rows
unfolding solved
solved-complete rows a e = by_first (refuted rows).value refl e
  where
    by_first : (o : Option (List (ℕ × ℤ))) → (refuted rows).value ≡ o → (or_splits rows (refuted rows).events o).value ≡ None → (q : RationalValuation) × SolvesRationally q rows
    by_first None d e = let h = refuted-none rows a d in generic rows h.0 h.1 (splits-none rows 0 rows a a e)
    by_first (Some l) d e = some-none _ _ e

-- ---- where no certificate is found, the rows are not infeasible

side-at : (rows rest : List Row) (place : ℕ) (r : Row) → AllByRecursion (λ r. r.kind ≡ Ne → SolvesSide rows r) rest → slice_get rest place ≡ Some r → r.kind ≡ Ne → SolvesSide rows r
side-at rows [] place r a e k = some-none _ _ (sym e)
side-at rows (x ∷ rest) zero r a e k = let d : x ≡ r = cc in subst (λ y. y.kind ≡ Ne → SolvesSide rows y) d a.0 k
side-at rows (x ∷ rest) (suc place) r a e k = side-at rows rest place r a.1 e k

one-side : (rows : List Row) (place : ℕ) → AllByRecursion (λ r. r.kind ≡ Ne → SolvesSide (without_ne rows) r) rows → SplitsToNone rows place → ⊥
one-side rows place a s =
    let d = side-at (without_ne rows) rows place (row Ne s.sort s.term) a s.is refl in
    elim d.1 [ inl h ↦ s.below d.0 h | inr h ↦ s.above d.0 h ]

pub solved-feasible : (rows : List Row) → RowsAscend rows → (solved rows).value ≡ None → Infeasible rows → ⊥
unfolding solved
solved-feasible rows a e i = by_first (refuted rows).value refl e i
  where
    by_first : (o : Option (List (ℕ × ℤ))) → (refuted rows).value ≡ o → (or_splits rows (refuted rows).events o).value ≡ None → Infeasible rows → ⊥
    by_first None d e (inl n) = let h = refuted-none rows a d in n h.0 h.1
    by_first None d e (inr s) = one-side rows s.0 (splits-none rows 0 rows a a e) s.1
    by_first (Some l) d e i = some-none _ _ e
