-- The search for a certificate, one row Ne after the other.
use Rattle.std.proofs.Common.{◌≡◌, ℕ, ℤ, ◌+◌, ◌<◌, ◌≤◌, List, [], ◌∷◌, ◌++◌, length, drop, get_or, refl, subst, sym, ap, ◌∙◌, Option, Some, None}
use Rattle.std.specs.Prelude.{Result, Ok, Err, IfOk, IsErr, IsErrAnd, option_map, slice_get}
use Rattle.std.proofs.lemmas.List.{drop_all}
use Rattle.std.proofs.lemmas.Option.{slice_get-get_or, slice_get_read}
use Rattle.cap_lin.specs.Linear.{Linear}
use Rattle.cap_lin.specs.Steps.{Step, first_wide}
use Rattle.cap_lin.specs.Rows.{below_zero, below_zero_steps, above_zero, above_zero_steps}
use Rattle.cap_lin.specs.declared.row.Row.{Row}
use Rattle.cap_lin.specs.declared.row.Sort.{Sort}
use Rattle.cap_lin.specs.declared.row.Kind.{Kind}
use Rattle.cap_lin.specs.declared.row.Kind.TheVariants.{Le, Lt, Eq, Ne}
use Rattle.cap_lin.specs.Exact as lin
use Rattle.cap_lin.specs.declared.error.LinError.{LinError}
use Rattle.cap_farkas.specs.Farkas.{no_row}
use Rattle.cap_fm_elimination.specs.Errors.{solve_error}
use Rattle.cap_farkas.specs.declared.cert.Cert.{Cert}
use Rattle.cap_farkas.specs.declared.cert.Cert.TheVariants as cert
use Rattle.cap_fm_spec.specs.Events.{Event, first_limit, made_all}
use Rattle.cap_fm_spec.specs.Solving.{Logged, RowsAscend, refuted, refuted_with, then_above, split, or_next, splits, or_splits, solved}
use Rattle.cap_fm_elimination.specs.Answers.{Explains, ExplainsSteps, IsLogged}
use Rattle.cap_fm_elimination.specs.declared.error.SolveError.{SolveError}
use Rattle.cap_fm_elimination.specs.declared.error.SolveError.TheVariants as error
use Rattle.cap_fm_spec.proofs.Solved.{solved-complete, solved-feasible}
use Rattle.cap_fm_spec.proofs.Certified.{certified}
use Rattle.cap_farkas.proofs.Sound.{refuted-excludes, excluded-infeasible}
use Rattle.cap_fm.specs.Solved.{certificate_of, IsSolved, IsCertified, IsTrueOf, HasSolution}
use Rattle.cap_fm.specs.declared.solver.Answer.{Answer}
use Rattle.cap_fm.specs.declared.solver.Answer.TheVariants.{Empty, Solvable}
use Rattle.cap_fm_elimination.proofs.Walks.{row-here}
use Rattle.cap_fm_elimination.proofs.Runs.{explains-lin, limit-later, explains-earlier, explains-later, explains-steps, steps-narrow}

abbrev Leaf : Type 0
Leaf = List (ℕ × ℤ)

-- two logs have the same value, and the same limit is the first that is passed
pub record SameLog {A : Type 0} (k l : Logged A) : Type 0 where
  pub limit : first_limit k.events ≡ first_limit l.events
  pub value : k.value ≡ l.value

pub same-log-explains : {A : Type 0} (e : SolveError) (k l : Logged A) → SameLog k l → Explains e l.events → Explains e k.events
same-log-explains (error.Wide a b) k l s h = s.limit ∙ h
same-log-explains error.Rows k l s h = s.limit ∙ h
same-log-explains error.OutOfMemory k l s h = tt

pub same-log-then : {A : Type 0} (k l m : Logged A) → SameLog k l → SameLog l m → SameLog k m
same-log-then k l m s t = record { limit = s.limit ∙ t.limit; value = s.value ∙ t.value }

-- a log that no event of passes a limit, and its value
abbrev Is : {A : Type 0} → A → Logged A → Type 0
Is x l = (first_limit l.events ≡ None) × (x ≡ l.value)

pub same-log-is : {A : Type 0} (x : A) (k l : Logged A) → SameLog k l → Is x l → Is x k
same-log-is x k l s i = (s.limit ∙ i.0, i.1 ∙ sym s.value)

-- ---- first the rows alone

by-first : (rows : List Row) (es : List Event) (o : Option Leaf) (e : SolveError) → Explains e es → Explains e (or_splits rows es o).events
by-first rows es (Some l) e h = h
by-first rows es None e h = explains-earlier e es _ h

pub solved-fails : (rows : List Row) (e : SolveError) → Explains e (refuted rows).events → Explains e (solved rows).events
unfolding solved
solved-fails rows e h = by-first rows (refuted rows).events (refuted rows).value e h

pub solved-leaf : (rows : List Row) (l : Leaf) → Is (Some l) (refuted rows) → Is (Some (cert.Leaf l)) (solved rows)
unfolding solved
solved-leaf rows l i = subst (λ o. Is (Some (cert.Leaf l)) (or_splits rows (refuted rows).events o)) i.1 (i.0, refl)

pub solved-goes : (rows : List Row) → Is None (refuted rows) → SameLog (solved rows) (splits rows 0 rows)
unfolding solved
solved-goes rows i = subst (λ o. SameLog (or_splits rows (refuted rows).events o) (splits rows 0 rows)) i.1 (record { limit = limit-later (refuted rows).events _ i.0; value = refl })

-- ---- then each row Ne

next-fails : (es : List Event) (o : Option Cert) (next : Logged (Option Cert)) (e : SolveError) → Explains e es → Explains e (or_next es o next).events
next-fails es (Some c) next e h = h
next-fails es None next e h = explains-earlier e es _ h

abbrev split_of : List Row → ℕ → Row → Logged (Option Cert)
split_of rows i r = split rows i r.kind r.sort r.term

pub split-fails : (rows rest : List Row) (i : ℕ) (r : Row) (whole : Logged (Option Cert)) (e : SolveError) → drop i rows ≡ r ∷ rest → SameLog whole (splits rows i (drop i rows)) → Explains e (split_of rows i r).events → Explains e whole.events
unfolding splits
split-fails rows rest i r whole e d s h = same-log-explains e whole _ s (subst (λ ts. Explains e (splits rows i ts).events) (sym d) (next-fails (split_of rows i r).events (split_of rows i r).value (splits rows (i + 1) rest) e h))

pub split-found : (rows rest : List Row) (i : ℕ) (r : Row) (c : Cert) (whole : Logged (Option Cert)) → drop i rows ≡ r ∷ rest → SameLog whole (splits rows i (drop i rows)) → Is (Some c) (split_of rows i r) → Is (Some c) whole
unfolding splits
split-found rows rest i r c whole d s h = same-log-is (Some c) whole _ s (subst (λ ts. Is (Some c) (splits rows i ts)) (sym d) (subst (λ o. Is (Some c) (or_next (split_of rows i r).events o (splits rows (i + 1) rest))) h.1 (h.0, refl)))

pub split-goes : (rows rest : List Row) (i : ℕ) (r : Row) (whole : Logged (Option Cert)) → drop i rows ≡ r ∷ rest → SameLog whole (splits rows i (drop i rows)) → Is None (split_of rows i r) → SameLog whole (splits rows (i + 1) rest)
unfolding splits
split-goes rows rest i r whole d s h = same-log-then whole _ _ s (subst (λ ts. SameLog (splits rows i ts) (splits rows (i + 1) rest)) (sym d) (subst (λ o. SameLog (or_next (split_of rows i r).events o (splits rows (i + 1) rest)) (splits rows (i + 1) rest)) h.1 (record { limit = limit-later (split_of rows i r).events _ h.0; value = refl })))

pub splits-end : (rows : List Row) (i : ℕ) (whole : Logged (Option Cert)) → length rows ≤ i → SameLog whole (splits rows i (drop i rows)) → Is None whole
unfolding splits first_limit
splits-end rows i whole l s = same-log-is None whole _ s (subst (λ ts. Is None (splits rows i ts)) (sym (drop_all i rows l)) (refl, refl))

-- ---- one row Ne

pub no-split : (rows : List Row) (place : ℕ) (k : Kind) (s : Sort) (t : Linear) → (k ≡ Ne → ⊥) → Is None (split rows place k s t)
unfolding first_limit
no-split rows place Le s t n = (refl, refl)
no-split rows place Lt s t n = (refl, refl)
no-split rows place Eq s t n = (refl, refl)
no-split rows place Ne s t n = absurd (n refl)

-- with a row behind the others, which is made first
pub with-fails : (rows : List Row) (steps : List Step) (r : Row) (e : SolveError) → ExplainsSteps e steps → Explains e (refuted_with rows steps r).events
with-fails rows steps r e h = explains-earlier e (made_all steps) _ (explains-steps e steps h)

pub with-explains : (rows : List Row) (steps : List Step) (r : Row) (e : SolveError) → first_wide steps ≡ None → Explains e (refuted (rows ++ (r ∷ []))).events → Explains e (refuted_with rows steps r).events
with-explains rows steps r e n h = explains-later e (made_all steps) _ (steps-narrow steps n) h

pub with-is : (rows : List Row) (steps : List Step) (r : Row) (o : Option Leaf) → first_wide steps ≡ None → Is o (refuted (rows ++ (r ∷ []))) → Is o (refuted_with rows steps r)
with-is rows steps r o n i = (limit-later (made_all steps) _ (steps-narrow steps n) ∙ i.0, i.1)

above-fails : (place : ℕ) (es : List Event) (o : Option Leaf) (above : Logged (Option Leaf)) (e : SolveError) → Explains e es → Explains e (then_above place es o above).events
above-fails place es None above e h = h
above-fails place es (Some l) above e h = explains-earlier e es _ h

abbrev below_log : List Row → Sort → Linear → Logged (Option Leaf)
below_log rows s t = refuted_with rows (below_zero_steps s t) (below_zero s t)

abbrev above_log : List Row → Sort → Linear → Logged (Option Leaf)
above_log rows s t = refuted_with rows (above_zero_steps s t) (above_zero s t)

pub below-fails : (rows : List Row) (place : ℕ) (s : Sort) (t : Linear) (e : SolveError) → Explains e (below_log rows s t).events → Explains e (split rows place Ne s t).events
below-fails rows place s t e h = above-fails place (below_log rows s t).events (below_log rows s t).value (above_log rows s t) e h

pub below-none : (rows : List Row) (place : ℕ) (s : Sort) (t : Linear) → Is None (below_log rows s t) → Is None (split rows place Ne s t)
below-none rows place s t i = subst (λ o. Is None (then_above place (below_log rows s t).events o (above_log rows s t))) i.1 (i.0, refl)

pub above-explains : (rows : List Row) (place : ℕ) (s : Sort) (t : Linear) (l : Leaf) (e : SolveError) → Is (Some l) (below_log rows s t) → Explains e (above_log rows s t).events → Explains e (split rows place Ne s t).events
above-explains rows place s t l e i h = subst (λ o. Explains e (then_above place (below_log rows s t).events o (above_log rows s t)).events) i.1 (explains-later e (below_log rows s t).events _ i.0 h)

pub above-is : (rows : List Row) (place : ℕ) (s : Sort) (t : Linear) (l : Leaf) (o : Option Leaf) → Is (Some l) (below_log rows s t) → Is o (above_log rows s t) → Is (option_map (λ m. cert.Split place l m) o) (split rows place Ne s t)
above-is rows place s t l o i h = subst (λ b. Is (option_map (λ m. cert.Split place l m) o) (then_above place (below_log rows s t).events b (above_log rows s t))) i.1 (limit-later (below_log rows s t).events _ i.0 ∙ h.0, ap (option_map (λ m. cert.Split place l m)) h.1)

-- ---- answers

pub solved-err : (r : Result Answer SolveError) (l : Logged (Option Cert)) (e : SolveError) → (y : SolveError) × (r ≡ Err y) × (y ≡ e) → Explains e l.events → IsSolved r l
solved-err r l e p h = subst (λ q. IsSolved q l) (sym p.1) (subst (λ y. Explains y l.events) (sym p.2) h)

-- the row that the code reads is the one of the place
one-row : (rows : List Row) (i : ℕ) (r s : Row) → slice_get rows i ≡ Some r → slice_get rows i ≡ Some s → r ≡ s
one-row rows i r s e f = some-same r s (sym e ∙ f)
  where
    some-same : (r s : Row) → Some r ≡ Some s → r ≡ s
    some-same r s e = cc

pub the-row : (rows : List Row) (i : ℕ) (r s : Row) → i < length rows → s ≡ get_or rows i s → slice_get rows i ≡ Some r → s ≡ r
the-row rows i r s l e f = one-row rows i s r (slice_get_read rows (length rows) i s refl l e) f

-- ---- theorems

tells : (rows : List Row) (o : Option Cert) (a : Answer) → RowsAscend rows → first_limit (solved rows).events ≡ None → certificate_of a ≡ (solved rows).value → IsCertified rows a × IsTrueOf rows a × HasSolution rows a
tells rows o (Empty c) h n e =
    let r = certified rows c h (sym e) n in
    (r, excluded-infeasible rows c (refuted-excludes rows c r), tt)
tells rows o Solvable h n e = (tt, solved-feasible rows h (sym e), solved-complete rows h (sym e))

pub answer-tells : (rows : List Row) (r : Result Answer SolveError) → RowsAscend rows → IsSolved r (solved rows) → IfOk r (λ a. IsCertified rows a × IsTrueOf rows a × HasSolution rows a)
answer-tells rows (Ok a) h i = tells rows None a h i.0 i.1
answer-tells rows (Err e) h i = tt

pub first-of : (A B C : Answer → Type 0) (r : Result Answer SolveError) → IfOk r (λ a. A a × B a × C a) → IfOk r A
first-of A B C (Ok a) h = h.0
first-of A B C (Err e) h = tt

pub second-of : (A B C : Answer → Type 0) (r : Result Answer SolveError) → IfOk r (λ a. A a × B a × C a) → IfOk r B
second-of A B C (Ok a) h = h.1
second-of A B C (Err e) h = tt

pub third-of : (A B C : Answer → Type 0) (r : Result Answer SolveError) → IfOk r (λ a. A a × B a × C a) → IfOk r C
third-of A B C (Ok a) h = h.2
third-of A B C (Err e) h = tt

-- ---- the row of a place, in the loop

pub place-row : (rows : List Row) (i : ℕ) → i < length rows → (r : Row) × (slice_get rows i ≡ Some r)
place-row rows i l = (get_or rows i no_row, slice_get-get_or rows i no_row l)

pub loop-fails : (rows : List Row) (i : ℕ) (whole : Logged (Option Cert)) (e : SolveError) → i < length rows → SameLog whole (splits rows i (drop i rows)) → ((r : Row) → slice_get rows i ≡ Some r → Explains e (split_of rows i r).events) → Explains e whole.events
loop-fails rows i whole e l s f = let p = place-row rows i l in split-fails rows (drop (i + 1) rows) i p.0 whole e (row-here rows i p.0 p.1) s (f p.0 p.1)

pub loop-found : (rows : List Row) (i : ℕ) (c : Cert) (whole : Logged (Option Cert)) → i < length rows → SameLog whole (splits rows i (drop i rows)) → ((r : Row) → slice_get rows i ≡ Some r → Is (Some c) (split_of rows i r)) → Is (Some c) whole
loop-found rows i c whole l s f = let p = place-row rows i l in split-found rows (drop (i + 1) rows) i p.0 c whole (row-here rows i p.0 p.1) s (f p.0 p.1)

pub loop-goes : (rows : List Row) (i : ℕ) (whole : Logged (Option Cert)) → i < length rows → SameLog whole (splits rows i (drop i rows)) → ((r : Row) → slice_get rows i ≡ Some r → Is None (split_of rows i r)) → SameLog whole (splits rows (i + 1) (drop (i + 1) rows))
loop-goes rows i whole l s f = let p = place-row rows i l in split-goes rows (drop (i + 1) rows) i p.0 whole (row-here rows i p.0 p.1) s (f p.0 p.1)

-- ---- the two sides, by the row that the code reads

pub below-wide : (rows : List Row) (place : ℕ) (r : Row) (x : LinError) (e : SolveError) → e ≡ solve_error x → lin.Explains x (below_zero_steps r.sort r.term) → Explains e (split rows place Ne r.sort r.term).events
below-wide rows place r x e f h = below-fails rows place r.sort r.term e (with-fails rows (below_zero_steps r.sort r.term) (below_zero r.sort r.term) e (subst (λ y. ExplainsSteps y (below_zero_steps r.sort r.term)) (sym f) (explains-lin x (below_zero_steps r.sort r.term) h)))

pub above-wide : (rows : List Row) (place : ℕ) (r : Row) (l : Leaf) (x : LinError) (e : SolveError) → Is (Some l) (below_log rows r.sort r.term) → e ≡ solve_error x → lin.Explains x (above_zero_steps r.sort r.term) → Explains e (split rows place Ne r.sort r.term).events
above-wide rows place r l x e i f h = above-explains rows place r.sort r.term l e i (with-fails rows (above_zero_steps r.sort r.term) (above_zero r.sort r.term) e (subst (λ y. ExplainsSteps y (above_zero_steps r.sort r.term)) (sym f) (explains-lin x (above_zero_steps r.sort r.term) h)))

-- a side's row as the code made it
pub side-is : (rows : List Row) (steps : List Step) (r s : Row) (o : Option Leaf) → (first_wide steps ≡ None) × (s ≡ r) → Is o (refuted (rows ++ (s ∷ []))) → Is o (refuted_with rows steps r)
side-is rows steps r s o m i = with-is rows steps r o m.0 (subst (λ t. Is o (refuted (rows ++ (t ∷ [])))) m.1 i)

pub side-explains : (rows : List Row) (steps : List Step) (r s : Row) (e : SolveError) → (first_wide steps ≡ None) × (s ≡ r) → Explains e (refuted (rows ++ (s ∷ []))).events → Explains e (refuted_with rows steps r).events
side-explains rows steps r s e m h = with-explains rows steps r e m.0 (subst (λ t. Explains e (refuted (rows ++ (t ∷ []))).events) m.1 h)

pub log-lin : {A : Type 0} (r : Result A SolveError) (l : Logged A) (x : LinError) → IsErr r × IsErrAnd r (λ e. e ≡ solve_error x) → ((e : SolveError) → e ≡ solve_error x → Explains e l.events) → IsLogged r l
log-lin (Ok a) l x h f = absurd h.1
log-lin (Err e) l x h f = f e h.1

pub for-row : (P : Row → Type 0) (rows : List Row) (i : ℕ) (r s : Row) → i < length rows → s ≡ get_or rows i s → slice_get rows i ≡ Some r → P s → P r
for-row P rows i r s l e f h = subst P (the-row rows i r s l e f) h
