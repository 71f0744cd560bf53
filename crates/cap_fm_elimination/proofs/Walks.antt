-- An elimination's turns, one after the other.
use Rattle.std.proofs.Common.{◌≡◌, ℕ, zero, suc, ◌+◌, ◌-◌, ◌<◌, ◌≤◌, ℤ, pos, ◌+ℤ◌, ◌*ℤ◌, List, [], ◌∷◌, ◌++◌, length, drop, get_or, take, min, arith, refl, subst, sym, ap, ◌∙◌, ◌⊎◌, inl, inr, Option, Some, None}
use Rattle.std.proofs.lemmas.Int.{ints}
use Rattle.std.specs.Prelude.{Result, Err, slice_get}
use Rattle.std.proofs.lemmas.Option.{slice_get_read}
use Rattle.std.proofs.lemmas.List.{map-append, take_more, drop_all}
use Rattle.std.proofs.lemmas.Bool.{cases_lt}
use Rattle.cap_fm_spec.specs.Events.{first_limit}
use Rattle.cap_lin.specs.Linear.{Linear, IsLeastFrom, coefficient}
use Rattle.cap_lin.specs.declared.row.Row.{Row}
use Rattle.cap_lin.specs.declared.row.Kind.{Kind}
use Rattle.cap_lin.specs.declared.row.Kind.TheVariants.{Le, Lt, Eq, Ne}
use Rattle.cap_fm_spec.specs.Runs as plain
use Rattle.cap_fm_spec.specs.Runs.{Stage, Run, Found, going, contradiction, done, Elimination, ◌>>=◌}
use Rattle.cap_fm_spec.specs.Elimination.{Pivot, input, inputs, chosen, first_pivot, by_equation, unit_variable, while_some, by_units, lacking, uppers, lowers, combine_all, occurring, by_pivot, by_variable, by_variables, width}
use Rattle.cap_fm_spec.proofs.Variables.{AreSound, Combines, Ascends, variable-steps, absent-above}
use Rattle.cap_lin.proofs.Combinations.{combination-coefficient}
use Rattle.cap_fm_elimination.specs.Views.{stage_view, entry_view, entries_view, IsStageOf}
use Rattle.cap_fm_elimination.specs.Answers.{AllVariables, Is, Same, Explains, DoesReach, AreRows, Lack, IsLeast}
use Rattle.cap_fm_elimination.specs.Entries.{Entry}
use Rattle.cap_fm_elimination.specs.declared.entry.Reached.{Reached}
use Rattle.cap_fm_elimination.specs.declared.error.SolveError.{SolveError}
use Rattle.cap_fm_elimination.specs.declared.stage.Stage.{Stage as Kept}
use Rattle.cap_fm_spec.proofs.Lists.{each-join, each-left, each-right}
use Rattle.cap_fm_elimination.proofs.Runs.{done-is, then-continues, then-stops, then-fails, same-is, same-explains, same-then}

same-eq : {A : Type 0} (r s : Run A) → r ≡ s → Same r s
same-eq r s e = record { limit = ap (λ q. first_limit q.events) e; found = ap (λ q. q.found) e; stage = ap (λ q. q.stage) e }

-- ---- input rows

pub input-next : (present new : List plain.Entry) (i : ℕ) (r : Row) (rest rows : List Row) (s t : Stage) → rows ≡ r ∷ rest → Is (going new) t (input present i r.kind r.term s) → Same (inputs present i rows s) (inputs (present ++ new) (i + 1) rest t)
unfolding inputs
input-next present new i r rest rows s t e h = rw e (then-continues (input present i r.kind r.term) (λ more. inputs (present ++ more) (i + 1) rest) s t new h)

pub input-stops : (present : List plain.Entry) (i : ℕ) (r : Row) (rest rows : List Row) (s t : Stage) (d : plain.Entry) → rows ≡ r ∷ rest → Is (contradiction d) t (input present i r.kind r.term s) → Is (contradiction d) t (inputs present i rows s)
unfolding inputs
input-stops present i r rest rows s t d e h = rw e (then-stops (input present i r.kind r.term) (λ more. inputs (present ++ more) (i + 1) rest) s t d h)

-- ---- unit equations

pub units-end : (n : ℕ) (rows : List plain.Entry) → first_pivot unit_variable rows ≡ None → by_units n rows ≡ done rows
unfolding by_units
units-end zero rows e = refl
units-end (suc n) rows e = ap (λ p. while_some p rows (by_units n)) e

pub units-none : (rows : List plain.Entry) → by_units 0 rows ≡ done rows
unfolding by_units
units-none rows = refl

pub units-next : (n m : ℕ) (rows others : List plain.Entry) (p : Pivot) (s t : Stage) → n ≡ suc m → first_pivot unit_variable rows ≡ Some p → Is (going others) t (by_equation p s) → Same (by_units n rows s) (by_units m others t)
unfolding by_units
units-next n m rows others p s t k e h = rw k (subst (λ o. Same (while_some o rows (by_units m) s) (by_units m others t)) (sym e) (then-continues (by_equation p) (by_units m) s t others h))

pub units-stop : (n m : ℕ) (rows : List plain.Entry) (p : Pivot) (s t : Stage) (d : plain.Entry) → n ≡ suc m → first_pivot unit_variable rows ≡ Some p → Is (contradiction d) t (by_equation p s) → Is (contradiction d) t (by_units n rows s)
unfolding by_units
units-stop n m rows p s t d k e h = rw k (subst (λ o. Is (contradiction d) t (while_some o rows (by_units m) s)) (sym e) (then-stops (by_equation p) (by_units m) s t d h))

-- ---- variables

-- a variable from a number on is in no term
abbrev pub Under : ℕ → Linear → Type 0
Under w t = (y : ℕ) → w ≤ y → coefficient y t.parts ≡ pos 0

zeros : (a b : ℤ) → a *ℤ pos 0 +ℤ b *ℤ pos 0 ≡ pos 0
zeros a b = omega (arith, ints)

under-combine : (w : ℕ) → Combines (Under w)
under-combine w a s b t h k = λ y l. rw (combination-coefficient y a s b t, h y l, k y l) (zeros a b)

pub variable-next : (x n m : ℕ) (rows others : List plain.Entry) (s t : Stage) → n ≡ suc m → Is (going others) t (by_variable x rows s) → Same (by_variables x n rows s) (by_variables (x + 1) m others t)
unfolding by_variables
variable-next x n m rows others s t k h = rw k (then-continues (by_variable x rows) (by_variables (x + 1) m) s t others h)

pub variable-stops : (x n m : ℕ) (rows : List plain.Entry) (s t : Stage) (d : plain.Entry) → n ≡ suc m → Is (contradiction d) t (by_variable x rows s) → Is (contradiction d) t (by_variables x n rows s)
unfolding by_variables
variable-stops x n m rows s t d k h = rw k (then-stops (by_variable x rows) (by_variables (x + 1) m) s t d h)

pub variables-none : (x : ℕ) (rows : List plain.Entry) → by_variables x 0 rows ≡ done rows
unfolding by_variables
variables-none x rows = refl

-- ---- the least variable

-- a variable is in no row of one
abbrev LacksOne : ℕ → Entry → Type 0
LacksOne x d = coefficient x d.term.parts ≡ pos 0

pub least-none : (low : ℕ) (ds es : List Entry) → IsLeast low ds None → IsLeast low es None → IsLeast low (ds ++ es) None
least-none low ds es a b = λ x h. each-join (LacksOne x) ds es (a x h) (b x h)

pub least-right : (low y : ℕ) (ds es : List Entry) → IsLeast low ds None → IsLeast low es (Some y) → IsLeast low (ds ++ es) (Some y)
least-right low y ds es a b = (b.0, λ h. b.1 (each-right (LacksOne y) ds es h), λ x h l. each-join (LacksOne x) ds es (a x h) (b.2 x h l))

pub least-left : (low y : ℕ) (ds es : List Entry) → IsLeast low ds (Some y) → IsLeast low es None → IsLeast low (ds ++ es) (Some y)
least-left low y ds es a b = (a.0, λ h. a.1 (each-left (LacksOne y) ds es h), λ x h l. each-join (LacksOne x) ds es (a.2 x h l) (b x h))

pub least-both : (low x y z : ℕ) (ds es : List Entry) → (z ≤ x) × (z ≤ y) × ((z ≡ x) ⊎ (z ≡ y)) → IsLeast low ds (Some x) → IsLeast low es (Some y) → IsLeast low (ds ++ es) (Some z)
least-both low x y z ds es (p, q, inl e) a b = let l = a.0 in (omega arith, λ h. a.1 (subst (λ w. Lack w ds) e (each-left (LacksOne z) ds es h)), λ w h k. each-join (LacksOne w) ds es (a.2 w h (omega arith)) (b.2 w h (omega arith)))
least-both low x y z ds es (p, q, inr e) a b = let l = b.0 in (omega arith, λ h. b.1 (subst (λ w. Lack w es) e (each-right (LacksOne z) ds es h)), λ w h k. each-join (LacksOne w) ds es (a.2 w h (omega arith)) (b.2 w h (omega arith)))

pub least-one : (low : ℕ) (d : Entry) (o : Option ℕ) → IsLeastFrom low d.term.parts o → IsLeast low (d ∷ []) o
least-one low d None h = λ x l. (h x l, tt)
least-one low d (Some y) h = (h.0, λ l. h.1 l.0, λ x l k. (h.2 x l k, tt))

-- ---- answers

pub reach-err : (inputs : ℕ) (z : Kept) (run : Run (List plain.Entry)) (r : Result Reached SolveError) (e : SolveError) → (y : SolveError) × (r ≡ Err y) × (y ≡ e) → Explains e run.events → DoesReach inputs z run r
reach-err inputs z run r e p h = subst (λ q. DoesReach inputs z run q) (sym p.1) (subst (λ y. Explains y run.events) (sym p.2) h)

pub row-here : (rows : List Row) (i : ℕ) (r : Row) → slice_get rows i ≡ Some r → drop i rows ≡ r ∷ drop (i + 1) rows
row-here [] i r e = cc
row-here (x ∷ rows) zero r e = let d : x ≡ r = cc in ap (λ y. y ∷ rows) d
row-here (x ∷ rows) (suc i) r e = let n : suc i + 1 ≡ suc (i + 1) = omega arith in row-here rows i r e ∙ ap (λ j. r ∷ drop j (x ∷ rows)) (sym n)

pub inputs-fail : (present : List plain.Entry) (whole : Run (List plain.Entry)) (i : ℕ) (r : Row) (rows : List Row) (s : Stage) (e : SolveError) → i < length rows → r ≡ get_or rows i r → Same whole (inputs present i (drop i rows) s) → Explains e (input present i r.kind r.term s).events → Explains e whole.events
unfolding inputs
inputs-fail present whole i r rows s e l q w h = same-explains e whole _ w (rw (row-here rows i r (slice_get_read rows (length rows) i r refl l q)) (then-fails (input present i r.kind r.term) (λ more. inputs (present ++ more) (i + 1) (drop (i + 1) rows)) s e h))

pub inputs-contradict : (present : List plain.Entry) (whole : Run (List plain.Entry)) (i : ℕ) (r : Row) (rows : List Row) (s t : Stage) (d : plain.Entry) → i < length rows → r ≡ get_or rows i r → Same whole (inputs present i (drop i rows) s) → Is (contradiction d) t (input present i r.kind r.term s) → Is (contradiction d) t whole
inputs-contradict present whole i r rows s t d l q w h = same-is _ _ whole _ w (input-stops present i r (drop (i + 1) rows) (drop i rows) s t d (row-here rows i r (slice_get_read rows (length rows) i r refl l q)) h)

pub inputs-go : (present new all : List plain.Entry) (whole : Run (List plain.Entry)) (i : ℕ) (r : Row) (rows : List Row) (s t : Stage) → i < length rows → r ≡ get_or rows i r → all ≡ present ++ new → Same whole (inputs present i (drop i rows) s) → Is (going new) t (input present i r.kind r.term s) → Same whole (inputs all (i + 1) (drop (i + 1) rows) t)
inputs-go present new all whole i r rows s t l q a w h = subst (λ p. Same whole (inputs p (i + 1) (drop (i + 1) rows) t)) (sym a) (same-then whole _ _ w (input-next present new i r (drop (i + 1) rows) (drop i rows) s t (row-here rows i r (slice_get_read rows (length rows) i r refl l q)) h))

pub inputs-end : (present : List plain.Entry) (whole : Run (List plain.Entry)) (i : ℕ) (rows : List Row) (s : Stage) → length rows ≤ i → Same whole (inputs present i (drop i rows) s) → Is (going present) s whole
unfolding inputs first_limit
inputs-end present whole i rows s l w = same-is _ _ whole _ w (rw (drop_all i rows l) (record { within = refl; found = refl; stage = refl }))

pub least-of-none : (low : ℕ) (ds es : List Entry) (o : Option ℕ) → IsLeast low ds None → IsLeast low es o → IsLeast low (ds ++ es) o
least-of-none low ds es None a b = least-none low ds es a b
least-of-none low ds es (Some y) a b = least-right low y ds es a b

pub min-of : (x y z : ℕ) → z ≡ min x y → (z ≤ x) × (z ≤ y) × ((z ≡ x) ⊎ (z ≡ y))
min-of x y z e = elim (cases_lt x y) [ inl l ↦ (omega arith, omega arith, inl (omega arith)) | inr l ↦ (omega arith, omega arith, inr (omega arith)) ]

pub least-more : (low : ℕ) (rows : List Entry) (i : ℕ) (d : Entry) (o : Option ℕ) → i < length rows → d ≡ get_or rows i d → IsLeast low (take i rows ++ (d ∷ [])) o → IsLeast low (take (i + 1) rows) o
least-more low rows i d o l e h = subst (λ ds. IsLeast low ds o) (sym (take_more rows i d l ∙ ap (λ x. take i rows ++ (x ∷ [])) (sym e))) h

pub view-more : (present new all : List Entry) → all ≡ present ++ new → entries_view all ≡ entries_view present ++ entries_view new
view-more present new all e = ap entries_view e ∙ map-append entry_view present new

pub units-fail : (whole : Run (List plain.Entry)) (n m : ℕ) (rows : List plain.Entry) (p : Pivot) (s : Stage) (e : SolveError) → Same whole (by_units n rows s) → n ≡ suc m → first_pivot unit_variable rows ≡ Some p → Explains e (by_equation p s).events → Explains e whole.events
unfolding by_units
units-fail whole n m rows p s e w k f h = same-explains e whole _ w (rw k (subst (λ o. Explains e (while_some o rows (by_units m) s).events) (sym f) (then-fails (by_equation p) (by_units m) s e h)))

done-by : (m : Elimination (List plain.Entry)) (rows : List plain.Entry) (s : Stage) → m ≡ done rows → Is (going rows) s (m s)
done-by m rows s e = subst (λ f. Is (going rows) s (f s)) (sym e) (done-is rows s)

pub ends-done : (whole : Run (List plain.Entry)) (m : Elimination (List plain.Entry)) (rows : List plain.Entry) (s : Stage) → Same whole (m s) → m ≡ done rows → Is (going rows) s whole
ends-done whole m rows s w e = same-is _ _ whole _ w (done-by m rows s e)

pub units-over : (whole : Run (List plain.Entry)) (n : ℕ) (rows : List plain.Entry) (s : Stage) → n ≡ 0 → Same whole (by_units n rows s) → Is (going rows) s whole
units-over whole n rows s k w = ends-done whole (by_units n rows) rows s w (ap (λ j. by_units j rows) k ∙ units-none rows)

-- ---- a variable that occurs in no row

chosen-none : (x : ℕ) (k : Kind) (ps : List (ℕ × ℤ)) → coefficient x ps ≡ pos 0 → chosen (occurring x) k ps ≡ None
unfolding occurring
chosen-none x Le ps e = refl
chosen-none x Lt ps e = refl
chosen-none x Ne ps e = refl
chosen-none x Eq ps e = rw e refl

no-pivot : (x : ℕ) (ds : List Entry) → Lack x ds → first_pivot (occurring x) (entries_view ds) ≡ None
unfolding first_pivot
no-pivot x [] l = refl
no-pivot x (d ∷ ds) l = rw (chosen-none x d.kind d.term.parts l.0, no-pivot x ds l.1) refl

all-lacking : (x : ℕ) (ds : List Entry) → Lack x ds → lacking x (entries_view ds) ≡ entries_view ds
all-lacking x [] l = refl
all-lacking x (d ∷ ds) l = rw (l.0, all-lacking x ds l.1) refl

no-uppers : (x : ℕ) (ds : List Entry) → Lack x ds → uppers x (entries_view ds) ≡ []
no-uppers x [] l = refl
no-uppers x (d ∷ ds) l = rw (l.0, no-uppers x ds l.1) refl

absent-bounds : (x : ℕ) (rows ps ns : List plain.Entry) → ps ≡ [] → combine_all x rows ps ns ≡ done rows
unfolding combine_all
absent-bounds x rows ps ns e = rw e refl

absent-changes-nothing : (x : ℕ) (ds : List Entry) → Lack x ds → by_variable x (entries_view ds) ≡ done (entries_view ds)
absent-changes-nothing x ds l = ap (by_pivot x (entries_view ds)) (no-pivot x ds l) ∙ absent-bounds x (lacking x (entries_view ds)) (uppers x (entries_view ds)) (lowers x (entries_view ds)) (no-uppers x ds l) ∙ ap done (all-lacking x ds l)

pub variables-skip : (k n x : ℕ) (ds : List Entry) (s : Stage) → ((z : ℕ) → x ≤ z → z < x + k → Lack z ds) → Same (by_variables x (k + n) (entries_view ds) s) (by_variables (x + k) n (entries_view ds) s)
variables-skip zero n x ds s l = let e : x ≡ x + 0 = omega arith in let f : 0 + n ≡ n = omega arith in same-eq _ _ (ap (λ y. by_variables y (0 + n) (entries_view ds) s) e ∙ ap (λ m. by_variables (x + 0) m (entries_view ds) s) f)
variables-skip (suc k) n x ds s l =
    let e : suc k + n ≡ suc (k + n) = omega arith in
    let f : x + 1 + k ≡ x + suc k = omega arith in
    let a = variable-next x (suc k + n) (k + n) (entries_view ds) (entries_view ds) s s e (done-by (by_variable x (entries_view ds)) (entries_view ds) s (absent-changes-nothing x ds (l x (omega arith) (omega arith)))) in
    let b = variables-skip k n (x + 1) ds s (λ z h i. l z (omega arith) (omega arith)) in
    same-then _ _ _ a (subst (λ y. Same (by_variables (x + 1) (k + n) (entries_view ds) s) (by_variables y n (entries_view ds) s)) f b)

-- ---- what holds of the rows

under-lacks : (w y : ℕ) (ds : List Entry) → AreSound (Under w) (entries_view ds) → w ≤ y → Lack y ds
under-lacks w y [] a l = tt
under-lacks w y (d ∷ ds) a l = (a.0.term y l, under-lacks w y ds a.1 l)

pub rows-under : (w : ℕ) (ds : List Entry) → AreRows ds → width (entries_view ds) ≤ w → AreSound (Under w) (entries_view ds)
unfolding width
rows-under w [] a h = tt
rows-under w (d ∷ ds) a h = (record { term = λ y l. absent-above y d.term.parts (omega arith); kind = a.0.kind; parts = a.0.parts }, rows-under w ds a.1 (omega arith))

pub sound-rows : (ds : List Entry) → AreSound Ascends (entries_view ds) → AreRows ds
sound-rows [] a = tt
sound-rows (d ∷ ds) a = (record { ascends = a.0.term; kind = a.0.kind; parts = a.0.parts }, sound-rows ds a.1)

pub still-under : (w x : ℕ) (ds : List Entry) (left : List plain.Entry) (s t : Stage) → AreSound (Under w) (entries_view ds) → Is (going left) t (by_variable x (entries_view ds) s) → AreSound (Under w) left
still-under w x ds left s t a i = (variable-steps (Under w) (under-combine w) x (entries_view ds) s left a (sym i.found)).sound

-- the least variable that is left is less than the width
pub found-below : (w low y : ℕ) (ds : List Entry) → AreSound (Under w) (entries_view ds) → IsLeast low ds (Some y) → y < w
found-below w low y ds a h = elim (cases_lt y w) [ inl l ↦ l | inr l ↦ absurd (h.1 (under-lacks w y ds a l)) ]

-- the work that remains of the variables
abbrev pub VariablesGo : ℕ → Kept → Kept → List Entry → List Entry → ℕ → Type 0
VariablesGo inputs old now all rows low = IsStageOf inputs now rows × AreSound (Under (width (entries_view all))) (entries_view rows) × ((n : ℕ) × (low + n ≡ width (entries_view all)) × Same (AllVariables all old) (by_variables low n (entries_view rows) (stage_view now)))

-- up to the least variable nothing changes
pub to-least : (w low n y : ℕ) (ds : List Entry) (s : Stage) (whole : Run (List plain.Entry)) → AreSound (Under w) (entries_view ds) → low + n ≡ w → IsLeast low ds (Some y) → Same whole (by_variables low n (entries_view ds) s) → (m : ℕ) × (y + 1 + m ≡ w) × Same whole (by_variables y (suc m) (entries_view ds) s)
to-least w low n y ds s whole a e h q =
    let l = found-below w low y ds a h in
    let g = h.0 in
    let m : ℕ = w - (y + 1) in
    let b : n ≡ (y - low) + suc m = omega arith in
    let c : low + (y - low) ≡ y = omega arith in
    let d = variables-skip (y - low) (suc m) low ds s (λ z i j. h.2 z i (omega arith)) in
    let f = subst (λ k. Same whole (by_variables low k (entries_view ds) s)) b q in
    (m, omega arith, same-then whole _ _ f (subst (λ k. Same (by_variables low ((y - low) + suc m) (entries_view ds) s) (by_variables k (suc m) (entries_view ds) s)) c d))

pub none-left : (low n : ℕ) (ds : List Entry) (s : Stage) (whole : Run (List plain.Entry)) → IsLeast low ds None → Same whole (by_variables low n (entries_view ds) s) → Is (going (entries_view ds)) s whole
none-left low n ds s whole h q =
    let b : n ≡ n + 0 = omega arith in
    let f = subst (λ k. Same whole (by_variables low k (entries_view ds) s)) b q in
    ends-done whole (by_variables (low + n) 0 (entries_view ds)) (entries_view ds) s (same-then whole _ _ f (variables-skip n 0 low ds s (λ z i j. h z i))) (variables-none (low + n) (entries_view ds))

pub variable-fails : (whole : Run (List plain.Entry)) (x m : ℕ) (rows : List plain.Entry) (s : Stage) (e : SolveError) → Same whole (by_variables x (suc m) rows s) → Explains e (by_variable x rows s).events → Explains e whole.events
unfolding by_variables
variable-fails whole x m rows s e w h = same-explains e whole _ w (then-fails (by_variable x rows) (by_variables (x + 1) m) s e h)
