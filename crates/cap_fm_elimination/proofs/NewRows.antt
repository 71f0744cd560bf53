-- How the code's rows arise: the stage behind each way, and the definition's run.
use Rattle.std.proofs.Common.{◌≡◌, ℕ, ◌+◌, ℤ, List, [], ◌∷◌, ◌++◌, length, get_or, set, map, reverse, arith, refl, subst, sym, ap, ◌∙◌, inl, inr, Bool, true, false, get_or-set_same, get_or-set_other, None, Ok, Err}
use Rattle.std.specs.Prelude.{◌||◌, ◌≢◌, if◌then◌else◌, Result}
use Rattle.std.specs.List.{AllByRecursion, list_any}
use Rattle.std.proofs.lemmas.List.{map-append, length-map, length-reverse, reverse-append, length_push, length-set}
use Rattle.std.proofs.lemmas.List.Folds.{list_any-append}
use Rattle.cap_lin.specs.Linear.{Linear, number, combination}
use Rattle.cap_lin.specs.Steps.{first_wide, combination_steps}
use Rattle.cap_lin.specs.Exact as lin
use Rattle.cap_lin.specs.declared.row.Kind.{Kind}
use Rattle.cap_lin.specs.declared.error.LinError.{LinError}
use Rattle.cap_fm_spec.specs.Events.{first_limit}
use Rattle.cap_fm_spec.specs.Runs as plain
use Rattle.cap_fm_spec.specs.Runs.{Run, going, contradiction, done, results, Elimination, ◌>>=◌}
use Rattle.cap_fm_spec.specs.Rows.{same_row, has_arisen, is_present, is_false, are_some, has_parts, count, keep, fail, look, arise, arise_combined, combine}
use Rattle.cap_fm_elimination.specs.Errors.{solve_error}
use Rattle.cap_fm_elimination.specs.Views.{origin_view, history_view, stage_view, entry_view, entries_view, row_number, IsNumbered, IsOrigin, IsHistory, IsStageOf, IsLast, Grows}
use Rattle.cap_fm_elimination.specs.Answers.{Is, Same, IsCounted, DoesArise, Explains, ExplainsSteps}
use Rattle.cap_fm_elimination.specs.Entries.{Entry}
use Rattle.cap_fm_elimination.specs.declared.entry.FalseRow.{FalseRow}
use Rattle.cap_fm_elimination.specs.declared.entry.Arisen.{Arisen}
use Rattle.cap_fm_elimination.specs.declared.entry.Origin.{Origin}
use Rattle.cap_fm_elimination.specs.declared.error.SolveError.{SolveError}
use Rattle.cap_fm_elimination.specs.declared.stage.Stage.{Stage}
use Rattle.cap_fm_elimination.proofs.Marks.{row-is, number-below, number-one}
use Rattle.cap_fm_elimination.proofs.Runs.{done-is, explains-lin, then-continues, then-fails, explains-steps, same-is, same-explains, same-then, results-are}
use Rattle.cap_fm_elimination.proofs.Stages.{all-grow, grows-by, grows-then, history-push}
use Rattle.cap_fm_elimination.proofs.Booleans.{true_or_false, if-true, if-false}
use Rattle.cap_lin.proofs.Infeasible.{push-all}

-- ---- the history with one more origin

pub history-more : (s z : Stage) (o : Origin) → z.forms.keys ≡ s.forms.keys → z.history.items ≡ s.history.items ++ (o ∷ []) → stage_view z ≡ record (stage_view s) { history = origin_view o ∷ (stage_view s).history }
history-more s z o k h = made _ _ _ _ k (ap history_view h ∙ ap reverse (map-append origin_view s.history.items (o ∷ [])) ∙ reverse-append (map origin_view s.history.items) (origin_view o ∷ []))
  where
    made : (A B : List (Linear × Kind)) (os qs : List plain.Origin) → A ≡ B → os ≡ qs → ◌≡◌ {A = plain.Stage} (record { arisen = A; history = os }) (record { arisen = B; history = qs })
    made A B os qs p q = rw (p, q) refl

pub history-length : (s : Stage) → length (stage_view s).history ≡ length s.history.items
history-length s = length-reverse (map origin_view s.history.items) ∙ length-map s.history.items origin_view

more-origins : (os qs : List Origin) (o : Origin) → qs ≡ os ++ (o ∷ []) → length qs ≡ length os + 1
more-origins os qs o e = ap length e ∙ length_push os o

-- ---- a row is present from now on

or-true : (b : Bool) → (b || (true || false)) ≡ true
or-true true = refl
or-true false = refl

or-false : (b : Bool) → (b || (false || false)) ≡ b
or-false true = refl
or-false false = refl

present-more : (t : Linear) (k : Kind) (ds : List Entry) (d : Entry) → is_present t k (entries_view (ds ++ (d ∷ []))) ≡ (is_present t k (entries_view ds) || (same_row t k d.term d.kind || false))
present-more t k ds d = ap (is_present t k) (map-append entry_view ds (d ∷ [])) ∙ list_any-append (λ r. same_row t k r.term r.kind) (entries_view ds) (entry_view d ∷ [])

kept-mark : (t : Linear) (k : Kind) (rows : List (Linear × Kind)) (marks : List Bool) (ds : List Entry) (d : Entry) → length marks ≡ length rows → has_arisen d.term d.kind rows ≡ true → row_number d.term d.kind rows ≡ d.number → has_arisen t k rows ≡ true → get_or marks (row_number t k rows) false ≡ is_present t k (entries_view ds) → get_or (set marks d.number true) (row_number t k rows) false ≡ is_present t k (entries_view (ds ++ (d ∷ [])))
kept-mark t k rows marks ds d l a n h m = elim (true_or_false (same_row t k d.term d.kind)) [
  | inl e ↦
      let q = row-is t k d.term d.kind e in
      let i : row_number t k rows ≡ d.number = rw (q.0, q.1) n in
      let b = number-below t k rows h in
      ap (λ j. get_or (set marks d.number true) j false) i ∙ get_or-set_same marks d.number true false (omega arith) ∙ sym (present-more t k ds d ∙ ap (λ b. is_present t k (entries_view ds) || (b || false)) e ∙ or-true (is_present t k (entries_view ds)))
  | inr e ↦
      let o : row_number t k rows ≢ d.number = λ i. absurd (false-true (sym e ∙ number-one t k d.term d.kind rows h (i ∙ sym n))) in
      get_or-set_other marks d.number (row_number t k rows) true false o ∙ m ∙ sym (present-more t k ds d ∙ ap (λ b. is_present t k (entries_view ds) || (b || false)) e ∙ or-false (is_present t k (entries_view ds)))
]
  where
    false-true : false ≡ true → ⊥
    false-true p = cc

pub fits-kept : (inputs : ℕ) (s z : Stage) (o : Origin) (ds : List Entry) (d : Entry) → z.forms.keys ≡ s.forms.keys → z.present.items ≡ set s.present.items d.number true → z.history.items ≡ s.history.items ++ (o ∷ []) → IsOrigin inputs (length s.history.items) o → has_arisen d.term d.kind (stage_view s).arisen ≡ true → row_number d.term d.kind (stage_view s).arisen ≡ d.number → d.origin ≡ length s.history.items → IsStageOf inputs s ds → IsStageOf inputs z (ds ++ (d ∷ [])) × Grows s z
fits-kept inputs s z o ds d k m h i a n q f =
    let A : (stage_view z).arisen ≡ (stage_view s).arisen = k in
    let l = more-origins s.history.items z.history.items o h in
    let g = grows-by s z A (omega arith) in (
      record {
        marked = record {
          long = ap length m ∙ length-set s.present.items d.number true ∙ f.marked.long ∙ sym (ap length A);
          tell = λ t k e.
              ap (λ ms. get_or ms (row_number t k (stage_view z).arisen) false) m
              ∙ ap (λ B. get_or (set s.present.items d.number true) (row_number t k B) false) A
              ∙ (let e2 = subst (λ B. has_arisen t k B ≡ true) A e in kept-mark t k (stage_view s).arisen s.present.items ds d f.marked.long a n e2 (f.marked.tell t k e2));
        };
        numbered = push-all (IsNumbered z) ds d (all-grow s z ds g f.numbered) (record { arose = subst (λ B. has_arisen d.term d.kind B ≡ true) (sym A) a; number = ap (row_number d.term d.kind) A ∙ n; origin = omega arith });
        history = subst (IsHistory inputs) (sym h) (history-push inputs s.history.items o f.history i);
      },
      g,
    )

pub keep-is : (s z : Stage) (o : Origin) (t : Linear) (k : Kind) (place : ℕ) → z.forms.keys ≡ s.forms.keys → z.history.items ≡ s.history.items ++ (o ∷ []) → place ≡ length s.history.items → Is (going (plain.entry t k place ∷ [])) (stage_view z) (keep t k (origin_view o) (stage_view s))
unfolding first_limit
keep-is s z o t k place f h p = record { within = refl; found = ap (λ i. going (plain.entry t k i ∷ [])) (p ∙ sym (history-length s)); stage = history-more s z o f h }

pub fail-is : (s z : Stage) (o : Origin) (t : Linear) (k : Kind) (place : ℕ) → z.forms.keys ≡ s.forms.keys → z.history.items ≡ s.history.items ++ (o ∷ []) → place ≡ length s.history.items → Is (contradiction (plain.entry t k place)) (stage_view z) (fail t k (origin_view o) (stage_view s))
unfolding first_limit
fail-is s z o t k place f h p = record { within = refl; found = ap (λ i. contradiction (plain.entry t k i)) (p ∙ sym (history-length s)); stage = history-more s z o f h }

pub last-is : (inputs : ℕ) (s z : Stage) (o : Origin) (d : FalseRow) (ds : List Entry) → z.history.items ≡ s.history.items ++ (o ∷ []) → d.origin ≡ length s.history.items → IsOrigin inputs (length s.history.items) o → IsStageOf inputs s ds → IsLast inputs z d
last-is inputs s z o d ds h p i f = let l = more-origins s.history.items z.history.items o h in record { last = omega arith; history = subst (IsHistory inputs) (sym h) (history-push inputs s.history.items o f.history i) }

pub grows-noted : (s z : Stage) (o : Origin) → z.forms.keys ≡ s.forms.keys → z.history.items ≡ s.history.items ++ (o ∷ []) → Grows s z
grows-noted s z o k h = let l = more-origins s.history.items z.history.items o h in grows-by s z k (omega arith)

-- ---- the definition's cases

pub same-of : {A : Type 0} (m n : Elimination A) (s : plain.Stage) → m ≡ n → Same (m s) (n s)
same-of m n s e = subst (λ f. Same (m s) (f s)) e (record { limit = refl; found = refl; stage = refl })

pub look-bare-true : (t : Linear) (k : Kind) (o : plain.Origin) → has_parts t ≡ false → is_false k t.constant ≡ false → look t k o ≡ done []
look-bare-true t k o h e = if-false (has_parts t) (keep t k o) _ h ∙ if-false (is_false k t.constant) (fail t k o) (done []) e

pub look-bare-false : (t : Linear) (k : Kind) (o : plain.Origin) → has_parts t ≡ false → is_false k t.constant ≡ true → look t k o ≡ fail t k o
look-bare-false t k o h e = if-false (has_parts t) (keep t k o) _ h ∙ if-true (is_false k t.constant) (fail t k o) (done []) e

pub look-parts : (t : Linear) (k : Kind) (o : plain.Origin) → has_parts t ≡ true → look t k o ≡ keep t k o
look-parts t k o h = if-true (has_parts t) (keep t k o) _ h

-- ---- after a row was counted

present-is : (inputs : ℕ) (s z : Stage) (ds : List Entry) (t : Linear) (k : Kind) (n : ℕ) (b : Bool) → IsCounted inputs s z ds t k n → b ≡ get_or z.present.items n false → is_present t k (entries_view ds) ≡ b
present-is inputs s z ds t k n b c e = sym (c.fits.marked.tell t k c.arose) ∙ ap (λ i. get_or z.present.items i false) c.number ∙ sym e

counted-then : (inputs : ℕ) (s z : Stage) (ds : List Entry) (t : Linear) (k : Kind) (n : ℕ) (m : Elimination (List plain.Entry)) → IsCounted inputs s z ds t k n → Same ((count t k >>= (λ u. m)) (stage_view s)) (m (stage_view z))
counted-then inputs s z ds t k n m c = then-continues (count t k) (λ u. m) (stage_view s) (stage_view z) tt c.is

pub counted-present : (inputs : ℕ) (s z : Stage) (ds : List Entry) (t : Linear) (k : Kind) (n : ℕ) (o : plain.Origin) → IsCounted inputs s z ds t k n → true ≡ get_or z.present.items n false → Is (going []) (stage_view z) ((count t k >>= (λ u. arise (entries_view ds) t k o)) (stage_view s))
counted-present inputs s z ds t k n o c e =
    let a = if-true (is_present t k (entries_view ds)) (done []) (look t k o) (present-is inputs s z ds t k n true c e) in
    same-is _ _ _ _ (same-then _ _ _ (counted-then inputs s z ds t k n (arise (entries_view ds) t k o) c) (same-of (arise (entries_view ds) t k o) (done []) (stage_view z) a)) (done-is [] (stage_view z))

pub counted-absent : (inputs : ℕ) (s z : Stage) (ds : List Entry) (t : Linear) (k : Kind) (n : ℕ) (o : plain.Origin) → IsCounted inputs s z ds t k n → false ≡ get_or z.present.items n false → Same ((count t k >>= (λ u. arise (entries_view ds) t k o)) (stage_view s)) (look t k o (stage_view z))
counted-absent inputs s z ds t k n o c e =
    let a = if-false (is_present t k (entries_view ds)) (done []) (look t k o) (present-is inputs s z ds t k n false c e) in
    same-then _ _ _ (counted-then inputs s z ds t k n (arise (entries_view ds) t k o) c) (same-of (arise (entries_view ds) t k o) (look t k o) (stage_view z) a)

pub combined-parts : (ds : List plain.Entry) (t : Linear) (k : Kind) (o : plain.Origin) → has_parts t ≡ true → arise_combined ds t k o ≡ (count t k >>= (λ u. arise ds t k o))
combined-parts ds t k o h = if-true (has_parts t) (count t k >>= (λ u. arise ds t k o)) (look t k o) h

pub combined-bare : (ds : List plain.Entry) (t : Linear) (k : Kind) (o : plain.Origin) → has_parts t ≡ false → arise_combined ds t k o ≡ look t k o
combined-bare ds t k o h = if-false (has_parts t) (count t k >>= (λ u. arise ds t k o)) (look t k o) h

-- ---- answers by another run

pub does-by : (inputs : ℕ) (s m z : Stage) (ds : List Entry) (r q : Run (List plain.Entry)) (a : Result Arisen SolveError) → Same r q → Grows s m → DoesArise inputs m z ds q a → DoesArise inputs s z ds r a
does-by inputs s m z ds r q (Ok a) e g d = (same-is _ _ r q e d.0, d.1, grows-then s m z g d.2)
does-by inputs s m z ds r q (Err x) e g d = same-explains x r q e d

pub combine-wide : (ds : List plain.Entry) (a b u v : ℤ) (p q : plain.Entry) (k : Kind) (s : plain.Stage) (e : LinError) (x : SolveError) → u ≡ a → v ≡ b → x ≡ solve_error e → lin.Explains e (combination_steps u p.term v q.term) → Explains x (combine ds a p b q k s).events
combine-wide ds a b u v p q k s e x i j f h =
    let g = subst (λ w. lin.Explains e (combination_steps a p.term w q.term)) j (subst (λ w. lin.Explains e (combination_steps w p.term v q.term)) i h) in
    then-fails (results (combination_steps a p.term b q.term)) (λ u. arise_combined ds (combination a p.term b q.term) k (plain.combined a p.origin b q.origin)) s x (explains-steps x (combination_steps a p.term b q.term) (subst (λ y. ExplainsSteps y (combination_steps a p.term b q.term)) (sym f) (explains-lin e (combination_steps a p.term b q.term) g)))

pub combine-narrow : (ds : List plain.Entry) (a : ℤ) (p : plain.Entry) (b : ℤ) (q : plain.Entry) (k : Kind) (s : plain.Stage) (t : Linear) → first_wide (combination_steps a p.term b q.term) ≡ None → t ≡ combination a p.term b q.term → Same (combine ds a p b q k s) (arise_combined ds t k (plain.combined a p.origin b q.origin) s)
combine-narrow ds a p b q k s t n e =
    subst (λ u. Same (combine ds a p b q k s) (arise_combined ds u k (plain.combined a p.origin b q.origin) s)) (sym e)
    (then-continues (results (combination_steps a p.term b q.term)) (λ u. arise_combined ds (combination a p.term b q.term) k (plain.combined a p.origin b q.origin)) s s tt (results-are (combination_steps a p.term b q.term) s n))

pub is-by : {A : Type 0} (found : plain.Found A) (stage : plain.Stage) (m n : Elimination A) (s : plain.Stage) → m ≡ n → Is found stage (n s) → Is found stage (m s)
is-by found stage m n s e i = subst (λ r. Is found stage (r s)) (sym e) i

-- the origins that may come next do not change with the count
pub origin-by : (inputs : ℕ) (s z : Stage) (o : Origin) → z.history.items ≡ s.history.items → IsOrigin inputs (length s.history.items) o → IsOrigin inputs (length z.history.items) o
origin-by inputs s z o h i = subst (λ n. IsOrigin inputs n o) (sym (ap length h)) i

-- a counted row that is absent, and then looked at
pub then-look : (inputs : ℕ) (s z u : Stage) (ds : List Entry) (t : Linear) (k : Kind) (n : ℕ) (o : Origin) (m : Elimination (List plain.Entry)) (a : Result Arisen SolveError) → m ≡ (count t k >>= (λ v. arise (entries_view ds) t k (origin_view o))) → IsCounted inputs s z ds t k n → false ≡ get_or z.present.items n false → DoesArise inputs z u ds (look t k (origin_view o) (stage_view z)) a → DoesArise inputs s u ds (m (stage_view s)) a
then-look inputs s z u ds t k n o m a e c p d = does-by inputs s z u ds (m (stage_view s)) (look t k (origin_view o) (stage_view z)) a (same-then _ _ _ (same-of m (count t k >>= (λ v. arise (entries_view ds) t k (origin_view o))) (stage_view s) e) (counted-absent inputs s z ds t k n (origin_view o) c p)) c.grows d

-- looking at a row with variables keeps it
pub keep-look : (inputs : ℕ) (s z : Stage) (ds : List Entry) (t : Linear) (k : Kind) (o : Origin) (a : Result Arisen SolveError) → has_parts t ≡ true → DoesArise inputs s z ds (keep t k (origin_view o) (stage_view s)) a → DoesArise inputs s z ds (look t k (origin_view o) (stage_view s)) a
keep-look inputs s z ds t k o a h d = does-by inputs s s z ds (look t k (origin_view o) (stage_view s)) (keep t k (origin_view o) (stage_view s)) a (same-of (look t k (origin_view o)) (keep t k (origin_view o)) (stage_view s) (look-parts t k (origin_view o) h)) (λ d x. x) d

-- a combination that is narrow, and then arises
pub then-combined : (inputs : ℕ) (s z : Stage) (ds : List Entry) (a b u v : ℤ) (p q : plain.Entry) (k : Kind) (t : Linear) (r : Result Arisen SolveError) → u ≡ a → v ≡ b → (first_wide (combination_steps u p.term v q.term) ≡ None) × (t ≡ combination u p.term v q.term) → DoesArise inputs s z ds (arise_combined (entries_view ds) t k (plain.combined u p.origin v q.origin) (stage_view s)) r → DoesArise inputs s z ds (combine (entries_view ds) a p b q k (stage_view s)) r
then-combined inputs s z ds a b u v p q k t r x y e d =
    subst (λ w. DoesArise inputs s z ds (combine (entries_view ds) a p w q k (stage_view s)) r) y
    (subst (λ w. DoesArise inputs s z ds (combine (entries_view ds) w p v q k (stage_view s)) r) x
    (does-by inputs s s z ds (combine (entries_view ds) u p v q k (stage_view s)) (arise_combined (entries_view ds) t k (plain.combined u p.origin v q.origin) (stage_view s)) r (combine-narrow (entries_view ds) u p v q k (stage_view s) t e.0 e.1) (λ d x. x) d))

pub bare-combined : (inputs : ℕ) (s z : Stage) (ds : List Entry) (t : Linear) (k : Kind) (o : plain.Origin) (r : Result Arisen SolveError) → has_parts t ≡ false → DoesArise inputs s z ds (look t k o (stage_view s)) r → DoesArise inputs s z ds (arise_combined (entries_view ds) t k o (stage_view s)) r
bare-combined inputs s z ds t k o r h d = does-by inputs s s z ds (arise_combined (entries_view ds) t k o (stage_view s)) (look t k o (stage_view s)) r (same-of (arise_combined (entries_view ds) t k o) (look t k o) (stage_view s) (combined-bare (entries_view ds) t k o h)) (λ d x. x) d

-- a term without parts is a number
no-parts : (ps : List (ℕ × ℤ)) → are_some ps ≡ false → ps ≡ []
no-parts [] h = refl
no-parts (p ∷ ps) h = cc

linear-by : (c : ℤ) (ps qs : List (ℕ × ℤ)) → ps ≡ qs → ◌≡◌ {A = Linear} (record { constant = c; parts = ps }) (record { constant = c; parts = qs })
linear-by c ps qs e = rw e refl

pub number-is : (t : Linear) → has_parts t ≡ false → number t.constant ≡ t
number-is t h = linear-by t.constant [] t.parts (sym (no-parts t.parts h))

pub bare-number : (inputs : ℕ) (s z : Stage) (ds : List Entry) (t : Linear) (k : Kind) (o : plain.Origin) (c : ℤ) (r : Result Arisen SolveError) → has_parts t ≡ false → c ≡ t.constant → DoesArise inputs s z ds (look (number c) k o (stage_view s)) r → DoesArise inputs s z ds (look t k o (stage_view s)) r
bare-number inputs s z ds t k o c r h e d = subst (λ u. DoesArise inputs s z ds (look u k o (stage_view s)) r) (ap number e ∙ number-is t h) d

pub does-err : (inputs : ℕ) (s z : Stage) (ds : List Entry) (r : Run (List plain.Entry)) (a : Result Arisen SolveError) (e : LinError) → Rattle.std.specs.Prelude.IsErr a × Rattle.std.specs.Prelude.IsErrAnd a (λ x. x ≡ solve_error e) → ((x : SolveError) → x ≡ solve_error e → Explains x r.events) → DoesArise inputs s z ds r a
does-err inputs s z ds r (Ok a) e h f = absurd h.1
does-err inputs s z ds r (Err x) e h f = f x h.1
