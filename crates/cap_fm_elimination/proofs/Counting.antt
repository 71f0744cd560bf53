-- A row is counted: the set of forms, and the definition's list of rows that arose.
use Rattle.std.proofs.Common.{◌≡◌, ℕ, ◌+◌, ◌<◌, ◌≤◌, nat_lt, List, [], ◌∷◌, ◌++◌, length, not, arith, refl, subst, sym, ap, ◌∙◌, Bool, true, false, Some}
use Rattle.std.specs.Prelude.{if◌then◌else◌}
use Rattle.std.proofs.lemmas.Bool.Decides.{nat_tests}
use Rattle.indexmap.specs.IndexSet.{insert_key}
use Rattle.cap_lin.specs.Linear.{Linear}
use Rattle.cap_lin.specs.declared.row.Kind.{Kind}
use Rattle.cap_fm_spec.specs.Events.{many, first_limit, counted}
use Rattle.cap_fm_spec.specs.Runs as plain
use Rattle.cap_fm_spec.specs.Runs.{going, done}
use Rattle.cap_fm_spec.specs.Rows.{same_row, has_arisen, count}
use Rattle.cap_fm_elimination.specs.Views.{history_view, stage_view, row_number, IsStageOf}
use Rattle.cap_fm_elimination.specs.Answers.{Is, IsCounted}
use Rattle.cap_fm_elimination.specs.Entries.{Entry}
use Rattle.cap_fm_elimination.specs.declared.stage.Stage.{Stage}
use Rattle.cap_fm_elimination.specs.Forms.{same_form}
use Rattle.cap_fm_elimination.proofs.Marks.{number-later, arisen-new}
use Rattle.cap_fm_elimination.proofs.Stages.{fits-by, fits-new, grows-by, grows-new}
use Rattle.cap_fm_elimination.proofs.Booleans.{or-none}

pub insert-old : (f : Linear × Kind) (rows : List (Linear × Kind)) → has_arisen f.0 f.1 rows ≡ true → insert_key same_form rows f ≡ rows
insert-old f rows h = by (has_arisen f.0 f.1 rows) h
  where
    by : (b : Bool) → b ≡ true → (if b then rows else rows ++ (f ∷ [])) ≡ rows
    by true e = refl
    by false e = cc

pub insert-new : (f : Linear × Kind) (rows : List (Linear × Kind)) → has_arisen f.0 f.1 rows ≡ false → insert_key same_form rows f ≡ rows ++ (f ∷ [])
insert-new f rows h = by (has_arisen f.0 f.1 rows) h
  where
    by : (b : Bool) → b ≡ false → (if b then rows else rows ++ (f ∷ [])) ≡ rows ++ (f ∷ [])
    by true e = cc
    by false e = refl

pub number-none : (t : Linear) (k : Kind) (rows : List (Linear × Kind)) → has_arisen t k rows ≡ false → row_number t k rows ≡ length rows
number-none t k [] h = refl
number-none t k (r ∷ rows) h =
    let n = or-none (same_row t k r.0 r.1) (has_arisen t k rows) h in
    let a = number-later t k r rows n.0 in
    let b = number-none t k rows n.1 in
    omega arith

-- ---- the definition's count

abbrev no_value : Unit {0}
no_value = tt

too-many-by : (b : Bool) (n : ℕ) (s t : plain.Stage) → b ≡ false → 4096 < n → first_limit (if b then done no_value s else record { events = counted n ∷ []; stage = t; found = going no_value }).events ≡ Some many
unfolding first_limit
too-many-by true n s t e h = cc
too-many-by false n s t e h = let l : nat_lt 4096 n ≡ true = grind (arith, nat_tests) in rw l refl

pub too-many : (t : Linear) (k : Kind) (s : plain.Stage) → has_arisen t k s.arisen ≡ false → 4096 ≤ length s.arisen → first_limit (count t k s).events ≡ Some many
too-many t k s e h = too-many-by (has_arisen t k s.arisen) (length s.arisen + 1) s _ e (omega arith)

few-by : (b : Bool) (n : ℕ) (s t u : plain.Stage) → b ≡ false → n ≤ 4096 → u ≡ t → Is (going no_value) u (if b then done no_value s else record { events = counted n ∷ []; stage = t; found = going no_value })
unfolding first_limit
few-by true n s t u e h v = cc
few-by false n s t u e h v = let l : nat_lt 4096 n ≡ false = grind (arith, nat_tests) in record { within = rw l refl; found = refl; stage = v }

again-by : (b : Bool) (n : ℕ) (s t : plain.Stage) → b ≡ true → Is (going no_value) s (if b then done no_value s else record { events = counted n ∷ []; stage = t; found = going no_value })
unfolding first_limit
again-by true n s t e = record { within = refl; found = refl; stage = refl }
again-by false n s t e = cc

-- ---- what the code's count gives

stage-made : (A B : List (Linear × Kind)) (os qs : List plain.Origin) → A ≡ B → os ≡ qs → ◌≡◌ {A = plain.Stage} (record { arisen = A; history = os }) (record { arisen = B; history = qs })
stage-made A B os qs p q = rw (p, q) refl

pub same-stage : (s t : Stage) → (stage_view t).arisen ≡ (stage_view s).arisen → t.history.items ≡ s.history.items → stage_view t ≡ stage_view s
same-stage s t a h = stage-made _ _ _ _ a (ap history_view h)

more-stage : (s t : Stage) (u : Linear) (l : Kind) → (stage_view t).arisen ≡ (stage_view s).arisen ++ ((u, l) ∷ []) → t.history.items ≡ s.history.items → stage_view t ≡ record (stage_view s) { arisen = (stage_view s).arisen ++ ((u, l) ∷ []) }
more-stage s t u l a h = stage-made _ _ _ _ a (ap history_view h)

not-true : (b c : Bool) → c ≡ not b → c ≡ true → b ≡ false
not-true true c e h = cc
not-true false c e h = refl

not-false : (b c : Bool) → c ≡ not b → c ≡ false → b ≡ true
not-false true c e h = refl
not-false false c e h = cc

pub one-too-many : (f : Linear × Kind) (s : Stage) (n : ℕ) (is_new : Bool) → is_new ≡ not (has_arisen f.0 f.1 s.forms.keys) → is_new ≡ true → n ≡ row_number f.0 f.1 s.forms.keys → 4096 ≤ n → first_limit (count f.0 f.1 (stage_view s)).events ≡ Some many
one-too-many f s n is_new a h p l =
    let g = not-true (has_arisen f.0 f.1 s.forms.keys) is_new a h in
    let q = p ∙ number-none f.0 f.1 s.forms.keys g in
    too-many f.0 f.1 (stage_view s) g (omega arith)

pub counted-new : (inputs : ℕ) (f : Linear × Kind) (s z : Stage) (ds : List Entry) (n : ℕ) (is_new : Bool) → is_new ≡ not (has_arisen f.0 f.1 s.forms.keys) → is_new ≡ true → n ≡ row_number f.0 f.1 s.forms.keys → n < 4096 → z.forms.keys ≡ insert_key same_form s.forms.keys f → z.present.items ≡ s.present.items ++ (false ∷ []) → z.history.items ≡ s.history.items → IsStageOf inputs s ds → IsCounted inputs s z ds f.0 f.1 n
counted-new inputs f s z ds n is_new a h p l k m o fits =
    let g = not-true (has_arisen f.0 f.1 s.forms.keys) is_new a h in
    let q = p ∙ number-none f.0 f.1 s.forms.keys g in
    let A : z.forms.keys ≡ s.forms.keys ++ ((f.0, f.1) ∷ []) = k ∙ insert-new f s.forms.keys g in
    let i = arisen-new f.0 f.1 s.forms.keys g in
    record {
      is = few-by (has_arisen f.0 f.1 s.forms.keys) (length s.forms.keys + 1) (stage_view s) _ (stage_view z) g (omega arith) (more-stage s z f.0 f.1 A o);
      fits = fits-new inputs s z f.0 f.1 ds g A m o fits;
      grows = grows-new s z f.0 f.1 A o;
      history = o;
      arose = subst (λ B. has_arisen f.0 f.1 B ≡ true) (sym A) i.0;
      number = ap (row_number f.0 f.1) A ∙ i.1 ∙ sym q;
    }

pub counted-again : (inputs : ℕ) (f : Linear × Kind) (s z : Stage) (ds : List Entry) (n : ℕ) (is_new : Bool) → is_new ≡ not (has_arisen f.0 f.1 s.forms.keys) → is_new ≡ false → n ≡ row_number f.0 f.1 s.forms.keys → z.forms.keys ≡ insert_key same_form s.forms.keys f → z.present.items ≡ s.present.items → z.history.items ≡ s.history.items → IsStageOf inputs s ds → IsCounted inputs s z ds f.0 f.1 n
counted-again inputs f s z ds n is_new a h p k m o fits =
    let g = not-false (has_arisen f.0 f.1 s.forms.keys) is_new a h in
    let A : z.forms.keys ≡ s.forms.keys = k ∙ insert-old f s.forms.keys g in
    let v = same-stage s z A o in
    record {
      is = subst (λ w. Is (going tt) w (count f.0 f.1 (stage_view s))) (sym v) (again-by (has_arisen f.0 f.1 s.forms.keys) (length s.forms.keys + 1) (stage_view s) _ g);
      fits = fits-by inputs s z ds A m o fits;
      grows = grows-by s z A (let w = ap length o in omega arith);
      history = o;
      arose = subst (λ B. has_arisen f.0 f.1 B ≡ true) (sym A) g;
      number = ap (row_number f.0 f.1) A ∙ sym p;
    }
