-- A certificate that elimination finds of rows has numbers and multipliers as those of a line.
use Rattle.std.proofs.Common.{◌≡◌, ℕ, zero, suc, ◌+◌, ◌<◌, ◌≤◌, ◌^◌, ℤ, pos, negsuc, ◌+ℤ◌, ◌*ℤ◌, Bool, true, false, List, [], ◌∷◌, ◌++◌, length, Option, Some, None, refl, sym, ap, ◌∙◌, subst, arith, FitsSigned, length-append}
use Rattle.std.specs.Prelude.{◌≢◌, ◌<ℤ◌, ◌==◌, ◌||◌, if◌then◌else◌, option_map}
use Rattle.std.specs.List.{AllByRecursion}
use Rattle.std.proofs.lemmas.Bool.{or_right, eqb-true}
use Rattle.std.proofs.lemmas.Bool.Decides.{nat_tests}
use Rattle.std.proofs.lemmas.Option.{slice_get_within}
use Rattle.std.proofs.Math.Dec.{lit<}
use mir.Syntax.{w128}
use Rattle.cap_lin.specs.Linear.{Linear, put_part, merged, multiples, times, combined_parts, combination}
use Rattle.cap_lin.specs.Steps.{Step, sum_of, product_of, first_wide, multiples_steps, times_steps, part_steps, combined_parts_steps, combination_steps}
use Rattle.cap_lin.specs.Rows.{row, below_zero, below_zero_steps, above_zero, above_zero_steps}
use Rattle.cap_lin.specs.declared.row.Row.{Row}
use Rattle.cap_lin.specs.declared.row.Sort.{Sort}
use Rattle.cap_lin.specs.declared.row.Kind.{Kind}
use Rattle.cap_lin.specs.declared.row.Kind.TheVariants.{Le, Lt, Eq, Ne}
use Rattle.cap_lin.proofs.Results.{first_wide-nil, first-narrow, product-fits, product-narrow, sum-fits, sum-narrow, narrow-left, narrow-right}
use Rattle.cap_farkas.specs.Farkas.{MayMultiply, row_at, Names}
use Rattle.cap_farkas.specs.Refutes.{Refutes}
use Rattle.cap_farkas.specs.declared.cert.Cert.{Cert}
use Rattle.cap_farkas.specs.declared.cert.Cert.TheVariants.{Leaf, Split}
use Rattle.cap_fm_spec.specs.Events.{Event, made, counted, made_all, wide_or, is_too_many, many, first_limit}
use Rattle.cap_fm_spec.specs.Runs.{Origin, given, combined, Entry, at_first, Found, going, contradiction}
use Rattle.cap_fm_spec.specs.Elimination.{eliminated}
use Rattle.cap_fm_spec.specs.Leaf.{multipliers_of, multipliers, and_its_rows, own_steps, way_steps, is_turned, turned, turned_steps, leaf, leaf_steps}
use Rattle.cap_fm_spec.specs.Solving.{leaf_found, refuted, refuted_with, then_above, split, or_next, splits, or_splits, solved}
use Rattle.cap_fm_spec.proofs.Certified.{certified}
use Rattle.cap_deriv_write.specs.Bounds.{IsCert, ArePairs}
use Rattle.cap_top_laws.specs.Laws.{DecidedHaveLines}

abbrev PartsFit : List (ℕ × ℤ) → Type 0
PartsFit ps = AllByRecursion (λ (p : ℕ × ℤ). FitsSigned w128 p.1) ps

-- ---- terms

put-fits : (x : ℕ) (k : ℤ) (ps : List (ℕ × ℤ)) → FitsSigned w128 k → PartsFit ps → PartsFit (put_part x k ps)
put-fits x (pos zero) ps f h = h
put-fits x (pos (suc n)) ps f h = (f, h)
put-fits x (negsuc n) ps f h = (f, h)

-- a part's sum, and what comes after it
part-fits : (a l b r : ℤ) (more : List Step) → first_wide (part_steps a l b r more) ≡ None
    → FitsSigned w128 (a *ℤ l +ℤ b *ℤ r) × (first_wide more ≡ None)
part-fits a l b r more n =
    let f = product-narrow a l (product_of b r ∷ (sum_of (a *ℤ l) (b *ℤ r) ∷ more)) n in
    let m = sym (product-fits a l (product_of b r ∷ (sum_of (a *ℤ l) (b *ℤ r) ∷ more)) f) ∙ n in
    let g = product-narrow b r (sum_of (a *ℤ l) (b *ℤ r) ∷ more) m in
    let o = sym (product-fits b r (sum_of (a *ℤ l) (b *ℤ r) ∷ more) g) ∙ m in
    let h = sum-narrow (a *ℤ l) (b *ℤ r) more o in
    (h, sym (sum-fits (a *ℤ l) (b *ℤ r) more h) ∙ o)

combined-fit : (a b : ℤ) (js : _) → first_wide (combined_parts_steps a b js) ≡ None → PartsFit (combined_parts a b js)
unfolding combined_parts combined_parts_steps
combined-fit a b [] n = tt
combined-fit a b (j ∷ js) n =
    let q = part-fits a j.left b j.right (combined_parts_steps a b js) n in
    put-fits j.variable _ _ q.0 (combined-fit a b js q.1)

combination-fits : (a : ℤ) (s : Linear) (b : ℤ) (t : Linear) → first_wide (combination_steps a s b t) ≡ None
    → PartsFit (combination a s b t).parts
unfolding combination combination_steps
combination-fits a s b t n =
    combined-fit a b (merged s.parts t.parts)
    (part-fits a s.constant b t.constant (combined_parts_steps a b (merged s.parts t.parts)) n).1

multiples-fit : (k : ℤ) (ps : List (ℕ × ℤ)) → first_wide (multiples_steps k ps) ≡ None → PartsFit (multiples k ps)
unfolding multiples multiples_steps
multiples-fit k [] n = tt
multiples-fit k (p ∷ ps) n =
    let f = product-narrow k p.1 (multiples_steps k ps) n in
    put-fits p.0 _ _ f (multiples-fit k ps (sym (product-fits k p.1 (multiples_steps k ps) f) ∙ n))

times-fit : (k : ℤ) (t : Linear) → first_wide (times_steps k t) ≡ None → PartsFit (times k t).parts
unfolding times times_steps
times-fit k t n =
    multiples-fit k t.parts
    (sym (product-fits k t.constant (multiples_steps k t.parts) (product-narrow k t.constant (multiples_steps k t.parts) n)) ∙ n)

-- ---- the multipliers of a row

origin-fits : (o : Origin) (earlier : ℕ → Linear) → first_wide (own_steps o earlier) ≡ None → PartsFit (multipliers_of o earlier).parts
origin-fits (given i) earlier n = (record { sfits = lit< tt }, tt)
origin-fits (combined a p b q) earlier n = combination-fits a (earlier p) b (earlier q) n

on-way : (o : Origin) (way : ℕ → Bool) (i : ℕ) → way i ≡ true → and_its_rows o way i ≡ true
on-way (given k) way i h = h
on-way (combined a p b q) way i h = or_right (i == p) ((i == q) || way i) (or_right (i == q) (way i) h)

way-fits : (history : List Origin) (way : ℕ → Bool) (i : ℕ) → first_wide (way_steps history way) ≡ None → way i ≡ true
    → PartsFit (multipliers history i).parts
unfolding way_steps multipliers
way-fits [] way i n h = tt
way-fits (o ∷ older) way i n h = by (λ w m k. way-fits older w i m k) (way (length older)) refl n (i == length older) refl
  where
    by : ((w : ℕ → Bool) → first_wide (way_steps older w) ≡ None → w i ≡ true → PartsFit (multipliers older i).parts)
        → (b : Bool) → way (length older) ≡ b
        → first_wide (if b then way_steps older (and_its_rows o way) ++ own_steps o (multipliers older) else way_steps older way) ≡ None
        → (c : Bool) → (i == length older) ≡ c
        → PartsFit (if c then multipliers_of o (multipliers older) else multipliers older i).parts
    by rec true e m true f = origin-fits o (multipliers older) (narrow-right (way_steps older (and_its_rows o way)) _ m)
    by rec true e m false f = rec (and_its_rows o way) (narrow-left (way_steps older (and_its_rows o way)) _ m) (on-way o way i h)
    by rec false e m true f =
        let d : i ≡ length older = eqb-true i (length older) f in
        let g : true ≡ false = sym h ∙ (ap way d ∙ e) in absurd cc
    by rec false e m false f = rec way m h

turned-fits : (b : Bool) (m : Linear) → PartsFit m.parts → first_wide (turned_steps b m) ≡ None → PartsFit (turned b m).parts
turned-fits true m h n = times-fit (negsuc 0) m n
turned-fits false m h n = h

same-place : (n : ℕ) → (n == n) ≡ true
same-place n = grind (arith, nat_tests)

leaf-fits : (rows : List Row) (history : List Origin) (e : Entry) → first_wide (leaf_steps rows history e) ≡ None
    → PartsFit (leaf history e).parts
leaf-fits rows history e n =
    let way = way_steps history (λ i. i == e.origin) in
    let turn = is_turned e.kind e.term.constant in
    turned-fits turn (multipliers history e.origin)
    (way-fits history (λ i. i == e.origin) e.origin (narrow-left way _ n) (same-place e.origin))
    (narrow-left (turned_steps turn (multipliers history e.origin)) _ (narrow-right way _ n))

-- ---- events that pass no limit

apart : (xs ys : List Event) → first_limit (xs ++ ys) ≡ None → (first_limit xs ≡ None) × (first_limit ys ≡ None)
unfolding first_limit
apart [] ys e = (refl, e)
apart (made s ∷ xs) ys e = by (first_wide (s ∷ [])) (apart xs ys) e
  where
    by : (o : Option (ℤ × ℤ)) → (first_limit (xs ++ ys) ≡ None → (first_limit xs ≡ None) × (first_limit ys ≡ None))
        → wide_or o (first_limit (xs ++ ys)) ≡ None → (wide_or o (first_limit xs) ≡ None) × (first_limit ys ≡ None)
    by None rec f = rec f
    by (Some p) rec f = absurd cc
apart (counted n ∷ xs) ys e = by (is_too_many n) (apart xs ys) e
  where
    by : (b : Bool) → (first_limit (xs ++ ys) ≡ None → (first_limit xs ≡ None) × (first_limit ys ≡ None))
        → (if b then Some many else first_limit (xs ++ ys)) ≡ None
        → ((if b then Some many else first_limit xs) ≡ None) × (first_limit ys ≡ None)
    by true rec f = absurd cc
    by false rec f = rec f

results-narrow : (steps : List Step) → first_limit (made_all steps) ≡ None → first_wide steps ≡ None
unfolding first_limit
results-narrow [] e = first_wide-nil
results-narrow (s ∷ steps) e = by (first_wide (s ∷ [])) refl (results-narrow steps) e
  where
    by : (o : Option (ℤ × ℤ)) → first_wide (s ∷ []) ≡ o → (first_limit (made_all steps) ≡ None → first_wide steps ≡ None)
        → wide_or o (first_limit (made_all steps)) ≡ None → first_wide (s ∷ steps) ≡ None
    by None d rec f = first-narrow (s ∷ []) steps d ∙ rec f
    by (Some p) d rec f = absurd cc

none-some : {A : Type 0} (B : Type 0) (x : A) → None ≡ Some x → B
none-some B x e = absurd cc

same-some : {A : Type 0} (x y : A) → Some x ≡ Some y → x ≡ y
same-some x y e = cc

-- ---- what is found

refuted-fits : (rows : List Row) (l : List (ℕ × ℤ)) → (refuted rows).value ≡ Some l → first_limit (refuted rows).events ≡ None → PartsFit l
unfolding refuted
refuted-fits rows l e n = by (eliminated rows at_first).found e n
  where
    by : (g : Found (List Entry))
        → (leaf_found rows (eliminated rows at_first).events (eliminated rows at_first).stage g).value ≡ Some l
        → first_limit (leaf_found rows (eliminated rows at_first).events (eliminated rows at_first).stage g).events ≡ None
        → PartsFit l
    by (going x) f m = none-some _ _ f
    by (contradiction c) f m =
        let history = (eliminated rows at_first).stage.history in
        subst PartsFit (same-some (leaf history c).parts l f)
        (leaf-fits rows history c (results-narrow (leaf_steps rows history c) (apart (eliminated rows at_first).events _ m).1))

abbrev MultipliersFit : Cert → Type 0
MultipliersFit (Leaf ps) = PartsFit ps
MultipliersFit (Split k ps qs) = PartsFit ps × PartsFit qs

behind-fits : (rows : List Row) (steps : List Step) (r : Row) (l : List (ℕ × ℤ)) → (refuted_with rows steps r).value ≡ Some l
    → first_limit (refuted_with rows steps r).events ≡ None → PartsFit l
behind-fits rows steps r l e n = refuted-fits (rows ++ r ∷ []) l e (apart (made_all steps) (refuted (rows ++ r ∷ [])).events n).1

split-fits : (rows : List Row) (place : ℕ) (k : Kind) (s : Sort) (t : Linear) (c : Cert) → (split rows place k s t).value ≡ Some c
    → first_limit (split rows place k s t).events ≡ None → MultipliersFit c
split-fits rows place Le s t c e n = none-some _ _ e
split-fits rows place Lt s t c e n = none-some _ _ e
split-fits rows place Eq s t c e n = none-some _ _ e
split-fits rows place Ne s t c e n = by-below (refuted_with rows (below_zero_steps s t) (below_zero s t)).value refl e n
  where
    by-above : (l : List (ℕ × ℤ)) → PartsFit l → first_limit (refuted_with rows (above_zero_steps s t) (above_zero s t)).events ≡ None
        → (o : Option (List (ℕ × ℤ))) → (refuted_with rows (above_zero_steps s t) (above_zero s t)).value ≡ o
        → option_map (λ m. Split place l m) o ≡ Some c → MultipliersFit c
    by-above l h m None d f = none-some _ _ f
    by-above l h m (Some q) d f =
        subst MultipliersFit (same-some (Split place l q) c f) (h, behind-fits rows (above_zero_steps s t) (above_zero s t) q d m)

    by-below : (o : Option (List (ℕ × ℤ))) → (refuted_with rows (below_zero_steps s t) (below_zero s t)).value ≡ o
        → (then_above place (refuted_with rows (below_zero_steps s t) (below_zero s t)).events o (refuted_with rows (above_zero_steps s t) (above_zero s t))).value ≡ Some c
        → first_limit (then_above place (refuted_with rows (below_zero_steps s t) (below_zero s t)).events o (refuted_with rows (above_zero_steps s t) (above_zero s t))).events ≡ None
        → MultipliersFit c
    by-below None d f m = none-some _ _ f
    by-below (Some l) d f m =
        let p = apart (refuted_with rows (below_zero_steps s t) (below_zero s t)).events (refuted_with rows (above_zero_steps s t) (above_zero s t)).events m in
        by-above l (behind-fits rows (below_zero_steps s t) (below_zero s t) l d p.0) p.1 (refuted_with rows (above_zero_steps s t) (above_zero s t)).value refl f

splits-fit : (rows : List Row) (place : ℕ) (rest : List Row) (c : Cert) → (splits rows place rest).value ≡ Some c
    → first_limit (splits rows place rest).events ≡ None → MultipliersFit c
unfolding splits
splits-fit rows place [] c e n = none-some _ _ e
splits-fit rows place (r ∷ rest) c e n = by (split rows place r.kind r.sort r.term).value refl (splits-fit rows (place + 1) rest c) e n
  where
    by : (o : Option Cert) → (split rows place r.kind r.sort r.term).value ≡ o
        → ((splits rows (place + 1) rest).value ≡ Some c → first_limit (splits rows (place + 1) rest).events ≡ None → MultipliersFit c)
        → (or_next (split rows place r.kind r.sort r.term).events o (splits rows (place + 1) rest)).value ≡ Some c
        → first_limit (or_next (split rows place r.kind r.sort r.term).events o (splits rows (place + 1) rest)).events ≡ None
        → MultipliersFit c
    by (Some d) g rec f m = split-fits rows place r.kind r.sort r.term c (g ∙ f) m
    by None g rec f m = rec f (apart (split rows place r.kind r.sort r.term).events _ m).1

pub found-fits : (rows : List Row) (c : Cert) → (solved rows).value ≡ Some c → first_limit (solved rows).events ≡ None → MultipliersFit c
unfolding solved
found-fits rows c e n = by (refuted rows).value refl e n
  where
    by : (o : Option (List (ℕ × ℤ))) → (refuted rows).value ≡ o → (or_splits rows (refuted rows).events o).value ≡ Some c
        → first_limit (or_splits rows (refuted rows).events o).events ≡ None → MultipliersFit c
    by (Some l) d f m = subst MultipliersFit (same-some (Leaf l) c f) (refuted-fits rows l d m)
    by None d f m = splits-fit rows 0 rows c f (apart (refuted rows).events _ m).1

-- ---- as those of a line

may-multiply : (k : Kind) (z : ℤ) → MayMultiply k z → z ≢ pos 0
may-multiply Le z h e = let m : pos 0 <ℤ pos 0 = subst (λ (y : ℤ). pos 0 <ℤ y) e h in omega arith
may-multiply Lt z h e = let m : pos 0 <ℤ pos 0 = subst (λ (y : ℤ). pos 0 <ℤ y) e h in omega arith
may-multiply Eq z h e = h e
may-multiply Ne z h e = absurd h

pairs-fit : (low : ℕ) (rows : List Row) (ps : List (ℕ × ℤ)) → length rows ≤ 2 ^ 32 → Names low rows ps → PartsFit ps → ArePairs ps
unfolding Names
pairs-fit low rows [] l n h = tt
pairs-fit low rows (p ∷ ps) l n h =
    let small : p.0 < 2 ^ 32 = omega (arith, l, n.1) in
    ((small, (h.0, may-multiply (row_at rows p.0).kind p.1 n.2)), pairs-fit (p.0 + 1) rows ps l n.3 h.1)

one-more : (rows : List Row) (r : Row) → length rows < 2 ^ 32 → length (rows ++ r ∷ []) ≤ 2 ^ 32
one-more rows r l = omega (arith, l, length-append rows (r ∷ []))

cert-fits : (rows : List Row) (c : Cert) → length rows < 2 ^ 32 → Refutes rows c → MultipliersFit c → IsCert c
cert-fits rows (Leaf ps) l r h = pairs-fit 0 rows ps (omega (arith, l)) r.names h
cert-fits rows (Split k ps qs) l r h = (
  omega (arith, l, slice_get_within rows k (row Ne r.sort r.term) r.is),
  pairs-fit 0 (rows ++ below_zero r.sort r.term ∷ []) ps (one-more rows (below_zero r.sort r.term) l) r.below_refuted.names h.0,
  pairs-fit 0 (rows ++ above_zero r.sort r.term ∷ []) qs (one-more rows (above_zero r.sort r.term) l) r.above_refuted.names h.1,
)

pub decided-have-lines : DecidedHaveLines
decided-have-lines rows c a l d =
    cert-fits rows c l (certified rows c a d.value d.limits) (found-fits rows c d.value d.limits)
