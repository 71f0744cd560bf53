-- A whole elimination, and the leaf that it finds.
use Rattle.std.proofs.Common.{◌≡◌, ℕ, ℤ, List, [], length, refl, subst, sym, ap, ◌∙◌, Some, None}
use Rattle.std.specs.Prelude.{Result, Ok, Err}
use Rattle.std.proofs.lemmas.List.{length-map}
use Rattle.cap_lin.specs.Steps.{first_wide}
use Rattle.cap_lin.specs.declared.row.Row.{Row}
use Rattle.cap_fm_spec.specs.Events.{Event, first_limit, made_all}
use Rattle.cap_fm_spec.specs.Runs as plain
use Rattle.cap_fm_spec.specs.Runs.{Stage, at_first, Run, Found, going, contradiction, Elimination, ◌>>=◌}
use Rattle.cap_fm_spec.specs.Elimination.{inputs, by_units, by_variables, width, eliminated}
use Rattle.cap_fm_spec.specs.Leaf.{leaf, leaf_steps}
use Rattle.cap_fm_spec.specs.Solving.{RowsAscend, Logged, leaf_found, run_leaf, refuted}
use Rattle.cap_fm_spec.proofs.Variables.{units-lead}
use Rattle.cap_fm_spec.proofs.Complete.{inputs-sound}
use Rattle.cap_fm_elimination.specs.Views.{entry_view, entries_view, stage_view, history_view}
use Rattle.cap_fm_elimination.specs.declared.entry.Origin.{Origin}
use Rattle.cap_fm_elimination.specs.Answers.{Is, Same, Explains, ExplainsSteps, DoesReach, AreRows, IsLogged}
use Rattle.cap_fm_elimination.specs.Entries.{Entry}
use Rattle.cap_fm_elimination.specs.declared.entry.Reached.{Reached}
use Rattle.cap_fm_elimination.specs.declared.error.SolveError.{SolveError}
use Rattle.cap_fm_elimination.specs.declared.stage.Stage.{Stage as Kept}
use Rattle.cap_fm_elimination.proofs.Runs.{limit-later, then-continues, then-stops, then-fails, same-is, same-explains, same-then, explains-earlier, explains-later, explains-steps, steps-narrow}
use Rattle.cap_fm_elimination.proofs.Walks.{sound-rows}

-- ---- one part after the other

abbrev units_of : List plain.Entry → Elimination (List plain.Entry)
units_of es = by_units (length es) es

abbrev variables_of : List plain.Entry → Elimination (List plain.Entry)
variables_of os = by_variables 0 (width os) os

pub inputs-explain : (rows : List Row) (s : Stage) (e : SolveError) → Explains e (inputs [] 0 rows s).events → Explains e (eliminated rows s).events
unfolding eliminated
inputs-explain rows s e h = then-fails (inputs [] 0 rows) (λ es. units_of es >>= variables_of) s e h

pub inputs-contradict : (rows : List Row) (s t : Stage) (d : plain.Entry) → Is (contradiction d) t (inputs [] 0 rows s) → Is (contradiction d) t (eliminated rows s)
unfolding eliminated
inputs-contradict rows s t d h = then-stops (inputs [] 0 rows) (λ es. units_of es >>= variables_of) s t d h

after-inputs : (rows : List Row) (s t : Stage) (es : List plain.Entry) → Is (going es) t (inputs [] 0 rows s) → Same (eliminated rows s) ((units_of es >>= variables_of) t)
unfolding eliminated
after-inputs rows s t es h = then-continues (inputs [] 0 rows) (λ es. units_of es >>= variables_of) s t es h

abbrev UnitsOf : ℕ → List Entry → Stage → Run (List plain.Entry)
UnitsOf n ds t = by_units n (entries_view ds) t

counted-view : (ds : List Entry) (t : Stage) → UnitsOf (length ds) ds t ≡ units_of (entries_view ds) t
counted-view ds t = ap (λ n. by_units n (entries_view ds) t) (sym (length-map ds entry_view))

pub units-explain : (rows : List Row) (s t : Stage) (ds : List Entry) (e : SolveError) → Is (going (entries_view ds)) t (inputs [] 0 rows s) → Explains e (by_units (length ds) (entries_view ds) t).events → Explains e (eliminated rows s).events
units-explain rows s t ds e h k = same-explains e _ _ (after-inputs rows s t (entries_view ds) h) (then-fails (units_of (entries_view ds)) variables_of t e (subst (λ r. Explains e r.events) (counted-view ds t) k))

pub units-contradict : (rows : List Row) (s t u : Stage) (ds : List Entry) (d : plain.Entry) → Is (going (entries_view ds)) t (inputs [] 0 rows s) → Is (contradiction d) u (by_units (length ds) (entries_view ds) t) → Is (contradiction d) u (eliminated rows s)
units-contradict rows s t u ds d h k = same-is _ _ _ _ (after-inputs rows s t (entries_view ds) h) (then-stops (units_of (entries_view ds)) variables_of t u d (subst (Is (contradiction d) u) (counted-view ds t) k))

after-units : (rows : List Row) (s t u : Stage) (ds : List Entry) (os : List plain.Entry) → Is (going (entries_view ds)) t (inputs [] 0 rows s) → Is (going os) u (by_units (length ds) (entries_view ds) t) → Same (eliminated rows s) (variables_of os u)
after-units rows s t u ds os h k = same-then _ _ _ (after-inputs rows s t (entries_view ds) h) (then-continues (units_of (entries_view ds)) variables_of t u os (subst (Is (going os) u) (counted-view ds t) k))

reach-by : (inputs : ℕ) (z : Kept) (run other : Run (List plain.Entry)) (r : Result Reached SolveError) → Same run other → DoesReach inputs z other r → DoesReach inputs z run r
reach-by inputs z run other (Ok x) w d = (same-is _ _ run other w d.0, d.1)
reach-by inputs z run other (Err e) w d = same-explains e run other w d

pub variables-reach : (n : ℕ) (z : Kept) (rows : List Row) (s t u : Stage) (ds os : List Entry) (r : Result Reached SolveError) → Is (going (entries_view ds)) t (inputs [] 0 rows s) → Is (going (entries_view os)) u (by_units (length ds) (entries_view ds) t) → DoesReach n z (by_variables 0 (width (entries_view os)) (entries_view os) u) r → DoesReach n z (eliminated rows s) r
variables-reach n z rows s t u ds os r h k d = reach-by n z _ _ r (after-units rows s t u ds (entries_view os) h k) d

pub are-rows : (rows : List Row) (s t u : Stage) (ds os : List Entry) → RowsAscend rows → Is (going (entries_view ds)) t (inputs [] 0 rows s) → Is (going (entries_view os)) u (by_units (length ds) (entries_view ds) t) → AreRows os
are-rows rows s t u ds os a h k = sound-rows os (units-lead (length ds) (entries_view ds) t (entries_view os) (inputs-sound [] 0 rows s (entries_view ds) tt a (sym h.found)) (sym k.found)).sound

-- ---- the leaf

by-found : (rows : List Row) (es : List Event) (t : Stage) (found : Found (List plain.Entry)) (e : SolveError) → Explains e es → Explains e (leaf_found rows es t found).events
by-found rows es t (going x) e h = h
by-found rows es t (contradiction d) e h = explains-earlier e es _ h

pub refuted-explains : (rows : List Row) (e : SolveError) → Explains e (eliminated rows at_first).events → Explains e (refuted rows).events
unfolding refuted
refuted-explains rows e h = by-found rows (eliminated rows at_first).events (eliminated rows at_first).stage (eliminated rows at_first).found e h

-- what is logged, by what a run finds
by-run : (rows : List Row) (run : Run (List plain.Entry)) (found : Found (List plain.Entry)) (t : Stage) → Is found t run → run_leaf rows run ≡ leaf_found rows run.events t found
by-run rows run found t i = ap (leaf_found rows run.events run.stage) (sym i.found) ∙ ap (λ s. leaf_found rows run.events s found) (sym i.stage)

pub refuted-none : (rows : List Row) (x : List plain.Entry) (t : Stage) → Is (going x) t (eliminated rows at_first) → (first_limit (refuted rows).events ≡ None) × (None ≡ (refuted rows).value)
unfolding refuted
refuted-none rows x t i = subst (λ l. (first_limit l.events ≡ None) × (None ≡ l.value)) (sym (by-run rows (eliminated rows at_first) (going x) t i)) (i.within, refl)

pub refuted-some : (rows : List Row) (d : plain.Entry) (t : Stage) (m : List (ℕ × ℤ)) → Is (contradiction d) t (eliminated rows at_first) → (first_wide (leaf_steps rows t.history d) ≡ None) × (m ≡ (leaf t.history d).parts) → (first_limit (refuted rows).events ≡ None) × (Some m ≡ (refuted rows).value)
unfolding refuted
refuted-some rows d t m i h = subst (λ l. (first_limit l.events ≡ None) × (Some m ≡ l.value)) (sym (by-run rows (eliminated rows at_first) (contradiction d) t i)) (limit-later _ (made_all (leaf_steps rows t.history d)) i.within ∙ steps-narrow (leaf_steps rows t.history d) h.0, ap Some h.1)

pub refuted-wide : (rows : List Row) (d : plain.Entry) (t : Stage) (e : SolveError) → Is (contradiction d) t (eliminated rows at_first) → ExplainsSteps e (leaf_steps rows t.history d) → Explains e (refuted rows).events
unfolding refuted
refuted-wide rows d t e i h = subst (λ l. Explains e l.events) (sym (by-run rows (eliminated rows at_first) (contradiction d) t i)) (explains-later e _ (made_all (leaf_steps rows t.history d)) i.within (explains-steps e (leaf_steps rows t.history d) h))

-- the same, as the code has it: from a stage that is the first, and with the history oldest first

from-first : (rows : List Row) (s : Stage) (found : Found (List plain.Entry)) (t : Stage) → s ≡ at_first → Is found t (eliminated rows s) → Is found t (eliminated rows at_first)
from-first rows s found t e i = subst (λ u. Is found t (eliminated rows u)) e i

pub code-explains : (rows : List Row) (s : Stage) (e : SolveError) → s ≡ at_first → Explains e (eliminated rows s).events → Explains e (refuted rows).events
code-explains rows s e f h = refuted-explains rows e (subst (λ u. Explains e (eliminated rows u).events) f h)

pub code-none : (rows : List Row) (s : Stage) (x : List plain.Entry) (t : Stage) → s ≡ at_first → Is (going x) t (eliminated rows s) → (first_limit (refuted rows).events ≡ None) × (None ≡ (refuted rows).value)
code-none rows s x t e i = refuted-none rows x t (from-first rows s (going x) t e i)

pub code-some : (rows : List Row) (s : Stage) (d : plain.Entry) (z : Kept) (os : List Origin) (m : List (ℕ × ℤ)) → s ≡ at_first → os ≡ z.history.items → Is (contradiction d) (stage_view z) (eliminated rows s) → (first_wide (leaf_steps rows (history_view os) d) ≡ None) × (m ≡ (leaf (history_view os) d).parts) → (first_limit (refuted rows).events ≡ None) × (Some m ≡ (refuted rows).value)
code-some rows s d z os m e q i h = refuted-some rows d (stage_view z) m (from-first rows s (contradiction d) (stage_view z) e i) (subst (λ o. (first_wide (leaf_steps rows (history_view o) d) ≡ None) × (m ≡ (leaf (history_view o) d).parts)) q h)

pub code-wide : (rows : List Row) (s : Stage) (d : plain.Entry) (z : Kept) (os : List Origin) (x : SolveError) → s ≡ at_first → os ≡ z.history.items → Is (contradiction d) (stage_view z) (eliminated rows s) → ExplainsSteps x (leaf_steps rows (history_view os) d) → Explains x (refuted rows).events
code-wide rows s d z os x e q i h = refuted-wide rows d (stage_view z) x (from-first rows s (contradiction d) (stage_view z) e i) (subst (λ o. ExplainsSteps x (leaf_steps rows (history_view o) d)) q h)

pub logged-err : {A : Type 0} (r : Result A SolveError) (l : Logged A) (e : SolveError) → (y : SolveError) × (r ≡ Err y) × (y ≡ e) → Explains e l.events → IsLogged r l
logged-err r l e p h = subst (λ q. IsLogged q l) (sym p.1) (subst (λ y. Explains y l.events) (sym p.2) h)
