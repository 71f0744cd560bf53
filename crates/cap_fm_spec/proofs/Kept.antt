-- Elimination keeps its rows made of the input rows.
use Rattle.std.proofs.Common.{◌≡◌, ℕ, zero, suc, ℤ, pos, negsuc, ◌*ℤ◌, ◌<ℤ◌, ◌+◌, List, [], ◌∷◌, ◌++◌, length, arith, refl, sym, ◌∙◌, subst, Bool, true, false, inl, inr, Option, Some, None}
use Rattle.std.specs.Prelude.{if◌then◌else◌, slice_get}
use Rattle.std.specs.List.{AllByRecursion}
use Rattle.std.proofs.lemmas.Int.{ints}
use Rattle.cap_lin.specs.Linear.{AscendFrom, is_zero}
use Rattle.cap_lin.specs.Steps.{product_of}
use Rattle.cap_lin.specs.declared.row.Row.{Row}
use Rattle.cap_lin.specs.declared.row.Kind.{Kind}
use Rattle.cap_lin.specs.declared.row.Kind.TheVariants.{Le, Lt, Eq, Ne}
use Rattle.cap_fm_spec.specs.Runs.{Entry, Stage, at_first, Elimination, done, results, ◌>>=◌}
use Rattle.cap_fm_spec.specs.Rows.{is_positive, is_negative, arise_given, combine, of_row}
use Rattle.cap_fm_spec.specs.Elimination.{input, inputs, replacement, replace, replace_all, Pivot, first_pivot, by_equation, unit_variable, while_some, by_units, lacking, uppers, lowers, strictest, combine_bounds, combine_each, combine_all, occurring, by_pivot, by_variable, by_variables, width, eliminated}
use Rattle.cap_fm_spec.proofs.Lists.{each-join, each-filter, filter-passes}
use Rattle.cap_fm_spec.proofs.Pivots.{pivot-is, occurring-some, unit-some}
use Rattle.cap_fm_spec.proofs.Variables.{strictest-kind}
use Rattle.cap_fm_spec.proofs.Sums.{joins-equation, joins-bounds}
use Rattle.cap_fm_spec.proofs.Made.{IsMade, AllMade, made-later, all-later, Keeps, keeps-done, keeps-then, IsStill, keeps-results, keeps-given, keeps-combine}

-- a part of an elimination keeps all rows made
abbrev pub KeepsMade : List Row → Elimination (List Entry) → Stage → Type 0
KeepsMade rows m s = Keeps rows (AllMade rows) s.history (m s)

-- ---- by an equation

-- results without rows, and then a combination with an equation
keeps-with : (rows : List Row) (present : List Entry) (x y a b : ℤ) (equation r : Entry) (s : Stage) → equation.kind ≡ Eq → pos 0 <ℤ a → IsMade rows s.history equation → IsMade rows s.history r → KeepsMade rows (results (product_of x y ∷ []) >>= (λ u. combine present a r b equation r.kind)) s
keeps-with rows present x y a b equation r s k l e m =
    keeps-then rows (IsStill s.history) (AllMade rows) (results (product_of x y ∷ [])) (λ u. combine present a r b equation r.kind) s (keeps-results rows (product_of x y ∷ []) s)
    (λ z t d i.
    keeps-combine rows present a r b equation r.kind t (rw k (joins-equation r.kind)) m.made.kind l (inr k) (made-later rows s.history t.history r d m) (made-later rows s.history t.history equation d e))

keeps-replacement : (rows : List Row) (present : List Entry) (e q : ℤ) (equation r : Entry) (s : Stage) → equation.kind ≡ Eq → (e ≡ pos 0 → ⊥) → IsMade rows s.history equation → IsMade rows s.history r → KeepsMade rows (replacement present e q equation r) s
keeps-replacement rows present (pos zero) q equation r s k n e m = absurd (n refl)
keeps-replacement rows present (pos (suc i)) q equation r s k n e m = keeps-with rows present (negsuc 0) q (pos (suc i)) (negsuc 0 *ℤ q) equation r s k (omega (arith, ints)) e m
keeps-replacement rows present (negsuc i) q equation r s k n e m = keeps-with rows present (negsuc 0) (negsuc i) (negsuc 0 *ℤ negsuc i) q equation r s k (omega (arith, ints)) e m

keeps-replace : (rows : List Row) (x : ℕ) (equation : Entry) (present : List Entry) (r : Entry) (s : Stage) → equation.kind ≡ Eq → (of_row x equation ≡ pos 0 → ⊥) → IsMade rows s.history equation → IsMade rows s.history r → KeepsMade rows (replace x equation present r) s
keeps-replace rows x equation present r s k n e m = by_test (is_zero (of_row x r))
  where
    by_test : (b : Bool) → KeepsMade rows (if b then done (r ∷ []) else replacement present (of_row x equation) (of_row x r) equation r) s
    by_test true = keeps-done rows (AllMade rows) (r ∷ []) s (m, tt)
    by_test false = keeps-replacement rows present (of_row x equation) (of_row x r) equation r s k n e m

keeps-replace_all : (rows : List Row) (x : ℕ) (equation : Entry) (before rest : List Entry) (s : Stage) → equation.kind ≡ Eq → (of_row x equation ≡ pos 0 → ⊥) → IsMade rows s.history equation → AllMade rows s.history before → AllMade rows s.history rest → KeepsMade rows (replace_all x equation before rest) s
unfolding replace_all
keeps-replace_all rows x equation before [] s k n e b m = keeps-done rows (AllMade rows) before s b
keeps-replace_all rows x equation before (r ∷ rest) s k n e b m =
    keeps-then rows (AllMade rows) (AllMade rows) (replace x equation (before ++ rest) r) (λ new. replace_all x equation (before ++ new) rest) s (keeps-replace rows x equation (before ++ rest) r s k n e m.0)
    (λ new t d i.
    keeps-replace_all rows x equation (before ++ new) rest t k n (made-later rows s.history t.history equation d e) (each-join _ before new (all-later rows s.history t.history before d b) i) (all-later rows s.history t.history rest d m.1))

keeps-equation : (rows : List Row) (choice : List (ℕ × ℤ) → Option ℕ) (es : List Entry) (p : Pivot) (s : Stage) → AllMade rows s.history es → first_pivot choice es ≡ Some p → ((e : Entry) → IsMade rows s.history e → choice e.term.parts ≡ Some p.variable → of_row p.variable e ≡ pos 0 → ⊥) → KeepsMade rows (by_equation p) s
keeps-equation rows choice es p s m e n =
    let i = pivot-is (IsMade rows s.history) choice es p e in
    let t = i.take m in
    keeps-replace_all rows p.variable p.equation [] p.others s i.kind (n p.equation t.0 i.variable) t.0 tt t.1

-- ---- first by equations that have a variable with the coefficient 1 or -1

keeps-units : (rows : List Row) (turns : ℕ) (es : List Entry) (s : Stage) → AllMade rows s.history es → KeepsMade rows (by_units turns es) s
unfolding by_units
keeps-units rows zero es s m = keeps-done rows (AllMade rows) es s m
keeps-units rows (suc turns) es s m = by_choice (first_pivot unit_variable es) refl (λ others t k. keeps-units rows turns others t k)
  where
    by_choice : (o : Option Pivot) → first_pivot unit_variable es ≡ o → ((others : List Entry) (t : Stage) → AllMade rows t.history others → KeepsMade rows (by_units turns others) t) → KeepsMade rows (while_some o es (by_units turns)) s
    by_choice None e ih = keeps-done rows (AllMade rows) es s m
    by_choice (Some p) e ih = keeps-then rows (AllMade rows) (AllMade rows) (by_equation p) (by_units turns) s (keeps-equation rows unit_variable es p s m e (λ r k d. (unit-some 0 p.variable r.term.parts k.made.ascends d).1)) (λ others t d k. ih others t k)

-- ---- by bounds

above-zero : (c : ℤ) → is_positive c ≡ true → pos 0 <ℤ c
above-zero (pos zero) e = cc
above-zero (pos (suc n)) e = omega (arith, ints)
above-zero (negsuc n) e = cc

turned-above : (c : ℤ) → is_negative c ≡ true → pos 0 <ℤ (negsuc 0 *ℤ c)
turned-above (pos n) e = cc
turned-above (negsuc n) e = omega (arith, ints)

keeps-bounds : (rows : List Row) (x : ℕ) (present : List Entry) (p n : Entry) (s : Stage) → is_positive (of_row x p) ≡ true → is_negative (of_row x n) ≡ true → IsMade rows s.history p → IsMade rows s.history n → KeepsMade rows (combine_bounds x present p n) s
keeps-bounds rows x present p n s a b k l =
    keeps-then rows (IsStill s.history) (AllMade rows) (results (product_of (negsuc 0) (of_row x n) ∷ [])) (λ u. combine present (negsuc 0 *ℤ of_row x n) p (of_row x p) n (strictest p.kind n.kind)) s (keeps-results rows (product_of (negsuc 0) (of_row x n) ∷ []) s)
    (λ z t d i.
    keeps-combine rows present (negsuc 0 *ℤ of_row x n) p (of_row x p) n (strictest p.kind n.kind) t (joins-bounds p.kind n.kind) (strictest-kind p.kind n.kind) (turned-above (of_row x n) b) (inl (above-zero (of_row x p) a)) (made-later rows s.history t.history p d k) (made-later rows s.history t.history n d l))

keeps-each : (rows : List Row) (x : ℕ) (present : List Entry) (p : Entry) (ns : List Entry) (s : Stage) → is_positive (of_row x p) ≡ true → AllByRecursion (λ n. is_negative (of_row x n) ≡ true) ns → AllMade rows s.history present → IsMade rows s.history p → AllMade rows s.history ns → KeepsMade rows (combine_each x present p ns) s
unfolding combine_each
keeps-each rows x present p [] s a b m k l = keeps-done rows (AllMade rows) present s m
keeps-each rows x present p (n ∷ ns) s a b m k l =
    keeps-then rows (AllMade rows) (AllMade rows) (combine_bounds x present p n) (λ new. combine_each x (present ++ new) p ns) s (keeps-bounds rows x present p n s a b.0 k l.0)
    (λ new t d i.
    keeps-each rows x (present ++ new) p ns t a b.1 (each-join _ present new (all-later rows s.history t.history present d m) i) (made-later rows s.history t.history p d k) (all-later rows s.history t.history ns d l.1))

keeps-all : (rows : List Row) (x : ℕ) (present ps ns : List Entry) (s : Stage) → AllByRecursion (λ p. is_positive (of_row x p) ≡ true) ps → AllByRecursion (λ n. is_negative (of_row x n) ≡ true) ns → AllMade rows s.history present → AllMade rows s.history ps → AllMade rows s.history ns → KeepsMade rows (combine_all x present ps ns) s
unfolding combine_all
keeps-all rows x present [] ns s a b m k l = keeps-done rows (AllMade rows) present s m
keeps-all rows x present (p ∷ ps) ns s a b m k l =
    keeps-then rows (AllMade rows) (AllMade rows) (combine_each x present p ns) (λ more. combine_all x more ps ns) s (keeps-each rows x present p ns s a.0 b m k.0 l)
    (λ more t d i. keeps-all rows x more ps ns t a.1 b i (all-later rows s.history t.history ps d k.1) (all-later rows s.history t.history ns d l))

-- ---- each variable in its turn

keeps-variable : (rows : List Row) (x : ℕ) (es : List Entry) (s : Stage) → AllMade rows s.history es → KeepsMade rows (by_variable x es) s
keeps-variable rows x es s m = by_choice (first_pivot (occurring x) es) refl
  where
    occurs : (p : Pivot) (e : Entry) → occurring x e.term.parts ≡ Some p.variable → of_row p.variable e ≡ pos 0 → ⊥
    occurs p e d = let o = occurring-some x p.variable e.term.parts d in subst (λ z. of_row z e ≡ pos 0 → ⊥) o.0 o.1

    by_choice : (o : Option Pivot) → first_pivot (occurring x) es ≡ o → KeepsMade rows (by_pivot x es o) s
    by_choice (Some p) e = keeps-equation rows (occurring x) es p s m e (λ r k d. occurs p r d)
    by_choice None e = keeps-all rows x (lacking x es) (uppers x es) (lowers x es) s (filter-passes (λ r. is_positive (of_row x r)) es) (filter-passes (λ r. is_negative (of_row x r)) es) (each-filter _ _ es m) (each-filter _ _ es m) (each-filter _ _ es m)

keeps-variables : (rows : List Row) (x n : ℕ) (es : List Entry) (s : Stage) → AllMade rows s.history es → KeepsMade rows (by_variables x n es) s
unfolding by_variables
keeps-variables rows x zero es s m = keeps-done rows (AllMade rows) es s m
keeps-variables rows x (suc n) es s m = keeps-then rows (AllMade rows) (AllMade rows) (by_variable x es) (λ others. by_variables (x + 1) n others) s (keeps-variable rows x es s m) (λ others t d i. keeps-variables rows (x + 1) n others t i)

-- ---- the input rows

-- the rows of a list stand among all from a number on
abbrev pub StandFrom : List Row → ℕ → List Row → Type 0
StandFrom rows i rest = (j : ℕ) (r : Row) → slice_get rest j ≡ Some r → slice_get rows (i + j) ≡ Some r

pub stand-next : (rows : List Row) (i : ℕ) (r : Row) (rest : List Row) → StandFrom rows i (r ∷ rest) → StandFrom rows (i + 1) rest
stand-next rows i r rest h j u e = let n : i + suc j ≡ i + 1 + j = omega arith in subst (λ k. slice_get rows k ≡ Some u) n (h (suc j) u e)

pub stands-first : (rows : List Row) (i : ℕ) (r : Row) (rest : List Row) → StandFrom rows i (r ∷ rest) → slice_get rows i ≡ Some r
stands-first rows i r rest h = let n : i + 0 ≡ i = omega arith in subst (λ k. slice_get rows k ≡ Some r) n (h 0 r refl)

pub all-stand : (rows : List Row) → StandFrom rows 0 rows
all-stand rows j r e = let n : j ≡ 0 + j = omega arith in subst (λ k. slice_get rows k ≡ Some r) n e

keeps-input : (rows : List Row) (present : List Entry) (i : ℕ) (r : Row) (s : Stage) → slice_get rows i ≡ Some r → AscendFrom 0 r.term.parts → KeepsMade rows (input present i r.kind r.term) s
keeps-input rows present i r s e a = by_kind r.kind refl
  where
    as_given : (k : Kind) → r.kind ≡ k → (k ≡ Ne → ⊥) → (r.kind ≡ Ne → ⊥)
    as_given k d n f = n (sym d ∙ f)

    by_kind : (k : Kind) → r.kind ≡ k → KeepsMade rows (input present i k r.term) s
    by_kind Le d = subst (λ l. KeepsMade rows (arise_given present r.term l i) s) d (keeps-given rows present i r s e (as_given Le d (λ f. cc)) a)
    by_kind Lt d = subst (λ l. KeepsMade rows (arise_given present r.term l i) s) d (keeps-given rows present i r s e (as_given Lt d (λ f. cc)) a)
    by_kind Eq d = subst (λ l. KeepsMade rows (arise_given present r.term l i) s) d (keeps-given rows present i r s e (as_given Eq d (λ f. cc)) a)
    by_kind Ne d = keeps-done rows (AllMade rows) [] s tt

keeps-inputs : (rows : List Row) (present : List Entry) (i : ℕ) (rest : List Row) (s : Stage) → StandFrom rows i rest → AllByRecursion (λ r. AscendFrom 0 r.term.parts) rest → AllMade rows s.history present → KeepsMade rows (inputs present i rest) s
unfolding inputs
keeps-inputs rows present i [] s h a m = keeps-done rows (AllMade rows) present s m
keeps-inputs rows present i (r ∷ rest) s h a m =
    keeps-then rows (AllMade rows) (AllMade rows) (input present i r.kind r.term) (λ more. inputs (present ++ more) (i + 1) rest) s (keeps-input rows present i r s (stands-first rows i r rest h) a.0)
    (λ more t d k. keeps-inputs rows (present ++ more) (i + 1) rest t (stand-next rows i r rest h) a.1 (each-join _ present more (all-later rows s.history t.history present d m) k))

-- ---- the whole

pub keeps-eliminated : (rows : List Row) → AllByRecursion (λ r. AscendFrom 0 r.term.parts) rows → KeepsMade rows (eliminated rows) at_first
unfolding eliminated
keeps-eliminated rows a =
    keeps-then rows (AllMade rows) (AllMade rows) (inputs [] 0 rows) (λ entries. by_units (length entries) entries >>= (λ others. by_variables 0 (width others) others)) at_first (keeps-inputs rows [] 0 rows at_first (all-stand rows) a tt)
    (λ entries t d m.
    keeps-then rows (AllMade rows) (AllMade rows) (by_units (length entries) entries) (λ others. by_variables 0 (width others) others) t (keeps-units rows (length entries) entries t m) (λ others u e n. keeps-variables rows 0 (width others) others u n))
