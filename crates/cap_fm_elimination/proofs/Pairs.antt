-- The combinations of one bound with others, and of all bounds from above with all from below.
use Rattle.std.proofs.Common.{◌≡◌, ℕ, ◌+◌, ◌<◌, ◌≤◌, List, [], ◌∷◌, ◌++◌, length, get_or, drop, cond, refl, sym, ap, ◌∙◌, subst, append-nil, Bool, true, false}
use Rattle.std.specs.Prelude.{filter}
use Rattle.std.proofs.lemmas.List.{drop_more, drop_all, map-append}
use Rattle.cap_lin.specs.Linear.{is_zero, coefficient}
use Rattle.cap_fm_spec.specs.Runs as plain
use Rattle.cap_fm_spec.specs.Runs.{Run, Elimination, going, contradiction, done, ◌>>=◌}
use Rattle.cap_fm_spec.specs.Rows.{of_row, is_positive, is_negative}
use Rattle.cap_fm_spec.specs.Elimination.{combine_bounds, combine_each, combine_all}
use Rattle.cap_fm_elimination.specs.Entries.{Entry}
use Rattle.cap_fm_elimination.specs.declared.entry.Present.{Present}
use Rattle.cap_fm_elimination.specs.declared.entry.FalseRow.{FalseRow}
use Rattle.cap_fm_elimination.specs.declared.entry.Arisen.TheVariants.{LeftOut, Kept, False}
use Rattle.cap_fm_elimination.specs.declared.stage.Stage.{Stage}
use Rattle.cap_fm_elimination.specs.declared.error.SolveError.{SolveError}
use Rattle.cap_fm_elimination.specs.Views.{upper_rows, lower_rows, stage_view, entry_view, entries_view, entry_of, false_view, lacking_rows, IsStageOf, IsLast, Grows, IsNumbered, AreNumbered}
use Rattle.cap_fm_elimination.specs.Answers.{AllBounds, Explains, Is, Same, Arises, OnlyLeaves}
use Rattle.cap_fm_spec.proofs.Lists.{each-filter}
use Rattle.cap_fm_elimination.proofs.Stages.{all-grow}
use Rattle.cap_fm_elimination.proofs.Runs.{then-continues, then-stops, then-fails, same-is, same-explains, same-then, same-refl}
use Rattle.cap_fm_elimination.proofs.Runs.{done-is}

each-nil : (x : ℕ) (present : List plain.Entry) (p : plain.Entry) → combine_each x present p [] ≡ done present
unfolding combine_each
each-nil x present p = refl

each-cons : (x : ℕ) (present : List plain.Entry) (p n : plain.Entry) (ns : List plain.Entry) → combine_each x present p (n ∷ ns) ≡ (combine_bounds x present p n >>= (λ new. combine_each x (present ++ new) p ns))
unfolding combine_each
each-cons x present p n ns = refl

-- the work that remains of the combinations of one bound
pub record EachGoes (inputs x : ℕ) (upper : Entry) (old now : Stage) (kept held all rest : List Entry) : Type 0 where
  pub fits : IsStageOf inputs now held
  pub grows : Grows old now
  pub same : Same (combine_each x (entries_view kept) (entry_view upper) (entries_view all) (stage_view old)) (combine_each x (entries_view held) (entry_view upper) (entries_view rest) (stage_view now))

pub each-starts : (inputs x : ℕ) (upper : Entry) (s : Stage) (kept all : List Entry) → IsStageOf inputs s kept → EachGoes inputs x upper s s kept kept all all
each-starts inputs x upper s kept all f = record { fits = f; grows = λ d n. n; same = same-refl _ }

pub each-next : (inputs x : ℕ) (upper : Entry) (old now : Stage) (kept held all : List Entry) (i : ℕ) (d : Entry) → i < length all → d ≡ get_or all i d → EachGoes inputs x upper old now kept held all (drop i all) → EachGoes inputs x upper old now kept held all (d ∷ drop (i + 1) all)
each-next inputs x upper old now kept held all i d l g h =
    subst (EachGoes inputs x upper old now kept held all) (drop_more all i d l ∙ ap (λ e. e ∷ drop (i + 1) all) (sym g)) h

step-same : (x : ℕ) (upper d : Entry) (held rest : List Entry) (s t : plain.Stage) (new : List plain.Entry) → Is (going new) t (combine_bounds x (entries_view held) (entry_view upper) (entry_view d) s) → Same (combine_each x (entries_view held) (entry_view upper) (entries_view (d ∷ rest)) s) (combine_each x (entries_view held ++ new) (entry_view upper) (entries_view rest) t)
step-same x upper d held rest s t new i = rw (each-cons x (entries_view held) (entry_view upper) (entry_view d) (entries_view rest)) (then-continues (combine_bounds x (entries_view held) (entry_view upper) (entry_view d)) (λ more. combine_each x (entries_view held ++ more) (entry_view upper) (entries_view rest)) s t new i)

-- the same runs, by rows that are equal to these
pub pair-by : (x : ℕ) (held : List Entry) (p q e f : Entry) (s : plain.Stage) → e ≡ p → f ≡ q → combine_bounds x (entries_view held) (entry_view e) (entry_view f) s ≡ combine_bounds x (entries_view held) (entry_view p) (entry_view q) s
pair-by x held p q e f s i j = ap (λ (d : Entry). combine_bounds x (entries_view held) (entry_view d) (entry_view f) s) i ∙ ap (λ (d : Entry). combine_bounds x (entries_view held) (entry_view p) (entry_view d) s) j

pub each-by : (x : ℕ) (held : List Entry) (p e : Entry) (qs fs : List Entry) (s : plain.Stage) → e ≡ p → fs ≡ qs → combine_each x (entries_view held) (entry_view e) (entries_view fs) s ≡ combine_each x (entries_view held) (entry_view p) (entries_view qs) s
each-by x held p e qs fs s i j = ap (λ (d : Entry). combine_each x (entries_view held) (entry_view d) (entries_view fs) s) i ∙ ap (λ ds. combine_each x (entries_view held) (entry_view p) (entries_view ds) s) j

pub each-left_out : (inputs x : ℕ) (upper d : Entry) (old now new : Stage) (kept held all rest : List Entry) → EachGoes inputs x upper old now kept held all (d ∷ rest) → Arises inputs now new held (combine_bounds x (entries_view held) (entry_view upper) (entry_view d) (stage_view now)) LeftOut → EachGoes inputs x upper old new kept held all rest
each-left_out inputs x upper d old now new kept held all rest h a = record {
  fits = a.1;
  grows = λ e n. a.2 e (h.grows e n);
  same = same-then _ _ _ h.same (subst (λ es. Same (combine_each x (entries_view held) (entry_view upper) (entries_view (d ∷ rest)) (stage_view now)) (combine_each x es (entry_view upper) (entries_view rest) (stage_view new))) (append-nil (entries_view held)) (step-same x upper d held rest (stage_view now) (stage_view new) [] a.0));
}

pub each-kept : (inputs x : ℕ) (upper d : Entry) (e : Present) (old now new : Stage) (kept held more all rest : List Entry) → EachGoes inputs x upper old now kept held all (d ∷ rest) → Arises inputs now new held (combine_bounds x (entries_view held) (entry_view upper) (entry_view d) (stage_view now)) (Kept e) → more ≡ held ++ (entry_of new e ∷ []) → EachGoes inputs x upper old new kept more all rest
each-kept inputs x upper d e old now new kept held more all rest h a m = subst (λ es. EachGoes inputs x upper old new kept es all rest) (sym m) (record {
  fits = a.1;
  grows = λ f n. a.2 f (h.grows f n);
  same = same-then _ _ _ h.same (subst (λ es. Same (combine_each x (entries_view held) (entry_view upper) (entries_view (d ∷ rest)) (stage_view now)) (combine_each x es (entry_view upper) (entries_view rest) (stage_view new))) (sym (map-append entry_view held (entry_of new e ∷ []))) (step-same x upper d held rest (stage_view now) (stage_view new) (entry_view (entry_of new e) ∷ []) a.0));
})

pub each-false : (inputs x : ℕ) (upper d : Entry) (e : FalseRow) (old now new : Stage) (kept held all rest : List Entry) → EachGoes inputs x upper old now kept held all (d ∷ rest) → Arises inputs now new held (combine_bounds x (entries_view held) (entry_view upper) (entry_view d) (stage_view now)) (False e) → Is (contradiction (false_view e)) (stage_view new) (combine_each x (entries_view kept) (entry_view upper) (entries_view all) (stage_view old)) × IsLast inputs new e × Grows old new
each-false inputs x upper d e old now new kept held all rest h a =
    let s : Is (contradiction (false_view e)) (stage_view new) (combine_each x (entries_view held) (entry_view upper) (entries_view (d ∷ rest)) (stage_view now)) = rw (each-cons x (entries_view held) (entry_view upper) (entry_view d) (entries_view rest)) (then-stops (combine_bounds x (entries_view held) (entry_view upper) (entry_view d)) (λ more. combine_each x (entries_view held ++ more) (entry_view upper) (entries_view rest)) (stage_view now) (stage_view new) (false_view e) a.0) in
    (same-is _ _ _ (combine_each x (entries_view held) (entry_view upper) (entries_view (d ∷ rest)) (stage_view now)) h.same s, a.1, λ f n. a.2 f (h.grows f n))

pub each-fails : (inputs x : ℕ) (upper d : Entry) (e : SolveError) (old now : Stage) (kept held all rest : List Entry) → EachGoes inputs x upper old now kept held all (d ∷ rest) → Explains e (combine_bounds x (entries_view held) (entry_view upper) (entry_view d) (stage_view now)).events → Explains e (combine_each x (entries_view kept) (entry_view upper) (entries_view all) (stage_view old)).events
each-fails inputs x upper d e old now kept held all rest h f =
    same-explains e _ (combine_each x (entries_view held) (entry_view upper) (entries_view (d ∷ rest)) (stage_view now)) h.same
    (rw (each-cons x (entries_view held) (entry_view upper) (entry_view d) (entries_view rest)) (then-fails (combine_bounds x (entries_view held) (entry_view upper) (entry_view d)) (λ more. combine_each x (entries_view held ++ more) (entry_view upper) (entries_view rest)) (stage_view now) e f))

pub each-ends : (inputs x : ℕ) (upper : Entry) (old now : Stage) (kept held all : List Entry) (i : ℕ) → length all ≤ i → EachGoes inputs x upper old now kept held all (drop i all) → Is (going (entries_view held)) (stage_view now) (combine_each x (entries_view kept) (entry_view upper) (entries_view all) (stage_view old)) × IsStageOf inputs now held × Grows old now
each-ends inputs x upper old now kept held all i l h =
    let e : EachGoes inputs x upper old now kept held all [] = subst (EachGoes inputs x upper old now kept held all) (drop_all i all l) h in
    (same-is _ _ _ (combine_each x (entries_view held) (entry_view upper) [] (stage_view now)) e.same (rw (each-nil x (entries_view held) (entry_view upper)) (done-is _ _)), e.fits, e.grows)

-- ---- all bounds from above

filter-step : (b : Bool) (d : Entry) (ds : List Entry) (es : List plain.Entry) → es ≡ entries_view ds → cond b (entry_view d ∷ es) es ≡ entries_view (cond b (d ∷ ds) ds)
filter-step true d ds es e = ap (λ fs. entry_view d ∷ fs) e
filter-step false d ds es e = e

filter-view : (test : plain.Entry → Bool) (ds : List Entry) → filter test (entries_view ds) ≡ entries_view (filter (λ d. test (entry_view d)) ds)
filter-view test [] = refl
filter-view test (d ∷ ds) = filter-step (test (entry_view d)) d (filter (λ e. test (entry_view e)) ds) (filter test (entries_view ds)) (filter-view test ds)

all-nil : (x : ℕ) (present ns : List plain.Entry) → combine_all x present [] ns ≡ done present
unfolding combine_all
all-nil x present ns = refl

all-cons : (x : ℕ) (present : List plain.Entry) (p : plain.Entry) (ps ns : List plain.Entry) → combine_all x present (p ∷ ps) ns ≡ (combine_each x present p ns >>= (λ more. combine_all x more ps ns))
unfolding combine_all
all-cons x present p ps ns = refl

-- the work that remains of them
pub record BoundsGo (inputs x : ℕ) (old now : Stage) (rows held rest below : List Entry) : Type 0 where
  pub fits : IsStageOf inputs now held
  pub above_numbered : AreNumbered now rest
  pub below_numbered : AreNumbered now below
  pub same : Same (AllBounds x rows old) (combine_all x (entries_view held) (entries_view rest) (entries_view below) (stage_view now))

pub bounds-start : (inputs x : ℕ) (old now : Stage) (rows held above below : List Entry) → IsStageOf inputs old rows → OnlyLeaves inputs old now (lacking_rows x rows) → held ≡ lacking_rows x rows → above ≡ upper_rows x rows → below ≡ lower_rows x rows → BoundsGo inputs x old now rows held above below
bounds-start inputs x old now rows held above below f l a b c =
    let n = all-grow old now rows l.grows f.numbered in
    rw (a, b, c) (record {
      fits = l.fits;
      above_numbered = each-filter (IsNumbered now) (λ d. is_positive (coefficient x d.term.parts)) rows n;
      below_numbered = each-filter (IsNumbered now) (λ d. is_negative (coefficient x d.term.parts)) rows n;
      same = rw (filter-view (λ r. is_zero (of_row x r)) rows, filter-view (λ r. is_positive (of_row x r)) rows, filter-view (λ r. is_negative (of_row x r)) rows, l.stage) (same-refl _);
    })

pub bounds-next : (inputs x : ℕ) (old now : Stage) (rows held above below : List Entry) (i : ℕ) (d : Entry) → i < length above → d ≡ get_or above i d → BoundsGo inputs x old now rows held (drop i above) below → BoundsGo inputs x old now rows held (d ∷ drop (i + 1) above) below
bounds-next inputs x old now rows held above below i d l g h = subst (λ es. BoundsGo inputs x old now rows held es below) (drop_more above i d l ∙ ap (λ e. e ∷ drop (i + 1) above) (sym g)) h

pub bounds-more : (inputs x : ℕ) (old now new : Stage) (rows held more rest below : List Entry) (d : Entry) → BoundsGo inputs x old now rows held (d ∷ rest) below → Is (going (entries_view more)) (stage_view new) (combine_each x (entries_view held) (entry_view d) (entries_view below) (stage_view now)) → IsStageOf inputs new more → Grows now new → BoundsGo inputs x old new rows more rest below
bounds-more inputs x old now new rows held more rest below d h i f g = record {
  fits = f;
  above_numbered = all-grow now new rest g h.above_numbered.1;
  below_numbered = all-grow now new below g h.below_numbered;
  same = same-then _ (combine_all x (entries_view held) (entries_view (d ∷ rest)) (entries_view below) (stage_view now)) _ h.same (rw (all-cons x (entries_view held) (entry_view d) (entries_view rest) (entries_view below)) (then-continues (combine_each x (entries_view held) (entry_view d) (entries_view below)) (λ es. combine_all x es (entries_view rest) (entries_view below)) (stage_view now) (stage_view new) (entries_view more) i));
}

pub bounds-false : (inputs x : ℕ) (old now new : Stage) (rows held rest below : List Entry) (d : Entry) (e : FalseRow) → BoundsGo inputs x old now rows held (d ∷ rest) below → Is (contradiction (false_view e)) (stage_view new) (combine_each x (entries_view held) (entry_view d) (entries_view below) (stage_view now)) → Is (contradiction (false_view e)) (stage_view new) (AllBounds x rows old)
bounds-false inputs x old now new rows held rest below d e h i =
    same-is _ _ _ (combine_all x (entries_view held) (entries_view (d ∷ rest)) (entries_view below) (stage_view now)) h.same
    (rw (all-cons x (entries_view held) (entry_view d) (entries_view rest) (entries_view below)) (then-stops (combine_each x (entries_view held) (entry_view d) (entries_view below)) (λ es. combine_all x es (entries_view rest) (entries_view below)) (stage_view now) (stage_view new) (false_view e) i))

pub bounds-fails : (inputs x : ℕ) (old now : Stage) (rows held rest below : List Entry) (d : Entry) (e : SolveError) → BoundsGo inputs x old now rows held (d ∷ rest) below → Explains e (combine_each x (entries_view held) (entry_view d) (entries_view below) (stage_view now)).events → Explains e (AllBounds x rows old).events
bounds-fails inputs x old now rows held rest below d e h f =
    same-explains e _ (combine_all x (entries_view held) (entries_view (d ∷ rest)) (entries_view below) (stage_view now)) h.same
    (rw (all-cons x (entries_view held) (entry_view d) (entries_view rest) (entries_view below)) (then-fails (combine_each x (entries_view held) (entry_view d) (entries_view below)) (λ es. combine_all x es (entries_view rest) (entries_view below)) (stage_view now) e f))

pub bounds-end : (inputs x : ℕ) (old now : Stage) (rows held above below : List Entry) (i : ℕ) → length above ≤ i → BoundsGo inputs x old now rows held (drop i above) below → Is (going (entries_view held)) (stage_view now) (AllBounds x rows old) × IsStageOf inputs now held
bounds-end inputs x old now rows held above below i l h =
    let e : BoundsGo inputs x old now rows held [] below = subst (λ es. BoundsGo inputs x old now rows held es below) (drop_all i above l) h in
    (same-is _ _ _ (combine_all x (entries_view held) [] (entries_view below) (stage_view now)) e.same (rw (all-nil x (entries_view held) (entries_view below)) (done-is _ _)), e.fits)
