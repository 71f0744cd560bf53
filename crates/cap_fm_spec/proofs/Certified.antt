-- The certificate that elimination finds of rows refutes them, where no limit is passed on the way.
use Rattle.std.proofs.Common.{◌≡◌, ℕ, ℤ, pos, ◌+◌, List, [], ◌∷◌, ◌++◌, refl, ◌∙◌, ap, subst, Bool, true, false, Option, Some, None}
use Rattle.std.specs.Prelude.{◌==◌, if◌then◌else◌, option_map, slice_get}
use Rattle.cap_lin.specs.Linear.{Linear, AscendFrom, number, negative}
use Rattle.cap_lin.specs.Steps.{Step, first_wide}
use Rattle.cap_lin.specs.Rows.{row, below_zero, below_zero_steps, above_zero, above_zero_steps}
use Rattle.cap_lin.specs.declared.row.Row.{Row}
use Rattle.cap_lin.specs.declared.row.Sort.{Sort}
use Rattle.cap_lin.specs.declared.row.Kind.{Kind}
use Rattle.cap_lin.specs.declared.row.Kind.TheVariants.{Le, Lt, Eq, Ne}
use Rattle.cap_lin.proofs.Results.{first_wide-nil, first-narrow, narrow-right}
use Rattle.cap_lin.proofs.Places.{coefficient-nil}
use Rattle.cap_farkas.specs.Farkas.{coefficient_of, column_steps, RefutesLeaf}
use Rattle.cap_farkas.specs.Refutes.{Refutes}
use Rattle.cap_farkas.specs.declared.cert.Cert.{Cert}
use Rattle.cap_farkas.specs.declared.cert.Cert.TheVariants.{Leaf, Split}
use Rattle.cap_fm_spec.specs.Events.{Event, made, counted, made_all, wide_or, is_too_many, many, first_limit}
use Rattle.cap_fm_spec.specs.Runs.{Origin, Entry, at_first, Found, going, contradiction}
use Rattle.cap_fm_spec.specs.Elimination.{eliminated}
use Rattle.cap_fm_spec.specs.Leaf.{multipliers, way_steps, is_turned, turned_steps, check_steps, leaf, leaf_steps}
use Rattle.cap_fm_spec.specs.Solving.{RowsAscend, leaf_found, refuted, refuted_with, then_above, split, or_next, splits, or_splits, solved}
use Rattle.cap_fm_spec.proofs.Lists.{each-join}
use Rattle.cap_fm_spec.proofs.Leaves.{false-refutes}
use Rattle.cap_fm_spec.proofs.Fits.{constants-fit, coefficients-fit}
use Rattle.cap_fm_spec.proofs.Made.{AllMade, IsFound, IsFalseRow}
use Rattle.cap_fm_spec.proofs.Kept.{StandFrom, all-stand, stand-next, stands-first, keeps-eliminated}
use Rattle.cap_fm_spec.proofs.Solved.{below-ascends, negative-ascends}

-- ---- events that pass no limit

apart : (xs ys : List Event) → first_limit (xs ++ ys) ≡ None → (first_limit xs ≡ None) × (first_limit ys ≡ None)
unfolding first_limit
apart [] ys e = (refl, e)
apart (made s ∷ xs) ys e = by_wide (first_wide (s ∷ [])) (apart xs ys) e
  where
    by_wide : (o : Option (ℤ × ℤ)) → (first_limit (xs ++ ys) ≡ None → (first_limit xs ≡ None) × (first_limit ys ≡ None)) → wide_or o (first_limit (xs ++ ys)) ≡ None → (wide_or o (first_limit xs) ≡ None) × (first_limit ys ≡ None)
    by_wide None ih e = ih e
    by_wide (Some p) ih e = absurd (cc)
apart (counted n ∷ xs) ys e = by_count (is_too_many n) (apart xs ys) e
  where
    by_count : (b : Bool) → (first_limit (xs ++ ys) ≡ None → (first_limit xs ≡ None) × (first_limit ys ≡ None)) → (if b then Some many else first_limit (xs ++ ys)) ≡ None → ((if b then Some many else first_limit xs) ≡ None) × (first_limit ys ≡ None)
    by_count true ih e = absurd (cc)
    by_count false ih e = ih e

results-narrow : (steps : List Step) → first_limit (made_all steps) ≡ None → first_wide steps ≡ None
unfolding first_limit
results-narrow [] e = first_wide-nil
results-narrow (s ∷ steps) e = by_wide (first_wide (s ∷ [])) refl (results-narrow steps) e
  where
    by_wide : (o : Option (ℤ × ℤ)) → first_wide (s ∷ []) ≡ o → (first_limit (made_all steps) ≡ None → first_wide steps ≡ None) → wide_or o (first_limit (made_all steps)) ≡ None → first_wide (s ∷ steps) ≡ None
    by_wide None d ih e = first-narrow (s ∷ []) steps d ∙ ih e
    by_wide (Some p) d ih e = absurd (cc)

none-some : {A : Type 0} (B : Type 0) (x : A) → None ≡ Some x → B
none-some B x e = absurd (cc)

same-some : {A : Type 0} (x y : A) → Some x ≡ Some y → x ≡ y
same-some x y e = cc

-- ---- a leaf

leaf-refutes : (rows : List Row) (history : List Origin) (e : Entry) → RowsAscend rows → IsFalseRow rows history e → first_wide (leaf_steps rows history e) ≡ None → RefutesLeaf rows (leaf history e).parts
leaf-refutes rows history e a f n =
    let m = f.made.made in
    let c = false-refutes rows e.term e.kind (multipliers history e.origin) m.kind f.no_parts f.wrong m.sum m.multipliers_ascend in
    let w : first_wide (check_steps rows (number (pos 0)) (leaf history e).parts) ≡ None = narrow-right (turned_steps (is_turned e.kind e.term.constant) (multipliers history e.origin)) _ (narrow-right (way_steps history (λ i. i == e.origin)) _ n) in
    record {
      names = c.names;
      constant = constants-fit rows (number (pos 0)) (leaf history e).parts w;
      cancels = λ x. record { narrow = subst (λ z. first_wide (column_steps (coefficient_of x) rows z (leaf history e).parts) ≡ None) (coefficient-nil x) (coefficients-fit x rows (number (pos 0)) (leaf history e).parts a tt w); zero_sum = c.cancels x };
      contradicts = c.contradicts;
    }

refuted-certified : (rows : List Row) (l : List (ℕ × ℤ)) → RowsAscend rows → (refuted rows).value ≡ Some l → first_limit (refuted rows).events ≡ None → RefutesLeaf rows l
unfolding refuted
refuted-certified rows l a e n = by_found (eliminated rows at_first).found (keeps-eliminated rows a).found e n
  where
    by_found : (g : Found (List Entry)) → IsFound rows (AllMade rows) (eliminated rows at_first).stage.history g → (leaf_found rows (eliminated rows at_first).events (eliminated rows at_first).stage g).value ≡ Some l → first_limit (leaf_found rows (eliminated rows at_first).events (eliminated rows at_first).stage g).events ≡ None → RefutesLeaf rows l
    by_found (going x) f e n = none-some _ _ e
    by_found (contradiction c) f e n =
        let history = (eliminated rows at_first).stage.history in
        let w = results-narrow (leaf_steps rows history c) (apart (eliminated rows at_first).events _ n).1 in
        subst (RefutesLeaf rows) (same-some _ _ e) (leaf-refutes rows history c a f w)

-- ---- a split

-- with a row behind the others, which is made first
record Behind (rows : List Row) (steps : List Step) (r : Row) (l : List (ℕ × ℤ)) : Type 0 where
  narrow : first_wide steps ≡ None
  refuted : RefutesLeaf (rows ++ r ∷ []) l

behind-certified : (rows : List Row) (steps : List Step) (r : Row) (l : List (ℕ × ℤ)) → RowsAscend rows → AscendFrom 0 r.term.parts → (refuted_with rows steps r).value ≡ Some l → first_limit (refuted_with rows steps r).events ≡ None → Behind rows steps r l
behind-certified rows steps r l a b e n =
    let p = apart (made_all steps) (refuted (rows ++ r ∷ [])).events n in
    record { narrow = results-narrow steps p.0; refuted = refuted-certified (rows ++ r ∷ []) l (each-join _ rows _ a (b, tt)) e p.1 }

split-ne : (rows : List Row) (place : ℕ) (s : Sort) (t : Linear) (cert : Cert) → RowsAscend rows → AscendFrom 0 t.parts → slice_get rows place ≡ Some (row Ne s t) → (split rows place Ne s t).value ≡ Some cert → first_limit (split rows place Ne s t).events ≡ None → Refutes rows cert
split-ne rows place s t cert a b i e n = by_below (refuted_with rows (below_zero_steps s t) (below_zero s t)).value refl e n
  where
    by_above : (l : List (ℕ × ℤ)) → Behind rows (below_zero_steps s t) (below_zero s t) l → first_limit (refuted_with rows (above_zero_steps s t) (above_zero s t)).events ≡ None → (o : Option (List (ℕ × ℤ))) → (refuted_with rows (above_zero_steps s t) (above_zero s t)).value ≡ o → option_map (λ m. Split place l m) o ≡ Some cert → Refutes rows cert
    by_above l h n None d e = none-some _ _ e
    by_above l h n (Some m) d e =
        let g = behind-certified rows (above_zero_steps s t) (above_zero s t) m a (below-ascends s (negative t) (negative-ascends t b)) d n in
        subst (Refutes rows) (same-some (Split place l m) cert e) (record { term = t; sort = s; is = i; below_narrow = h.narrow; below_refuted = h.refuted; above_narrow = g.narrow; above_refuted = g.refuted })

    by_below : (o : Option (List (ℕ × ℤ))) → (refuted_with rows (below_zero_steps s t) (below_zero s t)).value ≡ o → (then_above place (refuted_with rows (below_zero_steps s t) (below_zero s t)).events o (refuted_with rows (above_zero_steps s t) (above_zero s t))).value ≡ Some cert → first_limit (then_above place (refuted_with rows (below_zero_steps s t) (below_zero s t)).events o (refuted_with rows (above_zero_steps s t) (above_zero s t))).events ≡ None → Refutes rows cert
    by_below None d e n = none-some _ _ e
    by_below (Some l) d e n =
        let p = apart (refuted_with rows (below_zero_steps s t) (below_zero s t)).events (refuted_with rows (above_zero_steps s t) (above_zero s t)).events n in
        by_above l (behind-certified rows (below_zero_steps s t) (below_zero s t) l a (below-ascends s t b) d p.0) p.1 (refuted_with rows (above_zero_steps s t) (above_zero s t)).value refl e

row-is : (r : Row) (k : Kind) → r.kind ≡ k → r ≡ row k r.sort r.term
row-is r k e = ap (λ l. row l r.sort r.term) e

split-certified : (rows : List Row) (place : ℕ) (r : Row) (cert : Cert) → RowsAscend rows → AscendFrom 0 r.term.parts → slice_get rows place ≡ Some r → (split rows place r.kind r.sort r.term).value ≡ Some cert → first_limit (split rows place r.kind r.sort r.term).events ≡ None → Refutes rows cert
split-certified rows place r cert a b i e n = by_kind r.kind refl e n
  where
    by_kind : (k : Kind) → r.kind ≡ k → (split rows place k r.sort r.term).value ≡ Some cert → first_limit (split rows place k r.sort r.term).events ≡ None → Refutes rows cert
    by_kind Le d e n = none-some _ _ e
    by_kind Lt d e n = none-some _ _ e
    by_kind Eq d e n = none-some _ _ e
    by_kind Ne d e n = split-ne rows place r.sort r.term cert a b (i ∙ ap Some (row-is r Ne d)) e n

splits-certified : (rows : List Row) (place : ℕ) (rest : List Row) (cert : Cert) → RowsAscend rows → RowsAscend rest → StandFrom rows place rest → (splits rows place rest).value ≡ Some cert → first_limit (splits rows place rest).events ≡ None → Refutes rows cert
unfolding splits
splits-certified rows place [] cert a b h e n = none-some _ _ e
splits-certified rows place (r ∷ rest) cert a b h e n = by_first (split rows place r.kind r.sort r.term).value refl (splits-certified rows (place + 1) rest cert a b.1 (stand-next rows place r rest h)) e n
  where
    by_first : (o : Option Cert) → (split rows place r.kind r.sort r.term).value ≡ o → ((splits rows (place + 1) rest).value ≡ Some cert → first_limit (splits rows (place + 1) rest).events ≡ None → Refutes rows cert) → (or_next (split rows place r.kind r.sort r.term).events o (splits rows (place + 1) rest)).value ≡ Some cert → first_limit (or_next (split rows place r.kind r.sort r.term).events o (splits rows (place + 1) rest)).events ≡ None → Refutes rows cert
    by_first (Some c) d ih e n = split-certified rows place r cert a b.0 (stands-first rows place r rest h) (d ∙ e) n
    by_first None d ih e n = ih e (apart (split rows place r.kind r.sort r.term).events _ n).1

-- ---- the whole

pub certified : (rows : List Row) (cert : Cert) → RowsAscend rows → (solved rows).value ≡ Some cert → first_limit (solved rows).events ≡ None → Refutes rows cert
unfolding solved
certified rows cert a e n = by_first (refuted rows).value refl e n
  where
    by_first : (o : Option (List (ℕ × ℤ))) → (refuted rows).value ≡ o → (or_splits rows (refuted rows).events o).value ≡ Some cert → first_limit (or_splits rows (refuted rows).events o).events ≡ None → Refutes rows cert
    by_first (Some l) d e n = subst (Refutes rows) (same-some (Leaf l) cert e) (refuted-certified rows l a d n)
    by_first None d e n = splits-certified rows 0 rows cert a a (all-stand rows) e (apart (refuted rows).events _ n).1
