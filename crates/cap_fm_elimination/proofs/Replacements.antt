-- Rows that arise as combinations, and the answers that are those of their runs.
use Rattle.std.proofs.Common.{◌≡◌, ℕ, ℤ, pos, negsuc, ◌*ℤ◌, ◌≤ℤ◌, ◌<ℤ◌, List, [], ◌∷◌, arith, None}
use Rattle.std.specs.Prelude.{Result, Ok, Err}
use Rattle.std.proofs.lemmas.Int.{ints}
use Rattle.cap_lin.specs.Steps.{product_of, first_wide}
use Rattle.cap_lin.specs.declared.row.Kind.{Kind}
use Rattle.cap_fm_spec.specs.Runs as plain
use Rattle.cap_fm_spec.specs.Runs.{Run, going, done, results}
use Rattle.cap_fm_spec.specs.Rows.{combine, of_row}
use Rattle.cap_fm_spec.specs.Elimination.{replacement, combine_bounds, strictest}
use Rattle.cap_fm_elimination.specs.Entries.{Entry}
use Rattle.cap_fm_elimination.specs.declared.entry.Arisen.{Arisen}
use Rattle.cap_fm_elimination.specs.declared.stage.Stage.{Stage}
use Rattle.cap_fm_elimination.specs.declared.error.SolveError.{SolveError}
use Rattle.cap_fm_elimination.specs.Views.{stage_view, entry_view, entries_view}
use Rattle.cap_fm_elimination.specs.Answers.{Explains, ExplainsSteps, Same, DoesArise}
use Rattle.cap_fm_elimination.proofs.Runs.{explains-steps, then-continues, then-fails, same-is, same-explains, results-are}

-- what a run that is the same answers
pub same-arises : (inputs : ℕ) (old new : Stage) (present : List Entry) (r s : Run (List plain.Entry)) (result : Result Arisen SolveError) → Same r s → DoesArise inputs old new present s result → DoesArise inputs old new present r result
same-arises inputs old new present r s (Ok a) e h = (same-is _ _ r s e h.0, h.1, h.2)
same-arises inputs old new present r s (Err d) e h = same-explains d r s e h

-- ---- a row is replaced

pub factor-fails : (present : List plain.Entry) (a q : ℤ) (equation row : plain.Entry) (s : plain.Stage) (e : SolveError) → pos 0 ≤ℤ a → ExplainsSteps e (product_of (negsuc 0) q ∷ []) → Explains e (replacement present a q equation row s).events
factor-fails present (pos n) q equation row s e l h = then-fails (results (product_of (negsuc 0) q ∷ [])) (λ u. combine present (pos n) row (negsuc 0 *ℤ q) equation row.kind) s e (explains-steps e _ h)
factor-fails present (negsuc n) q equation row s e l h = absurd (omega (arith, ints))

pub size-fails : (present : List plain.Entry) (a q : ℤ) (equation row : plain.Entry) (s : plain.Stage) (e : SolveError) → a <ℤ pos 0 → ExplainsSteps e (product_of (negsuc 0) a ∷ []) → Explains e (replacement present a q equation row s).events
size-fails present (pos n) q equation row s e l h = absurd (omega (arith, ints))
size-fails present (negsuc n) q equation row s e l h = then-fails (results (product_of (negsuc 0) (negsuc n) ∷ [])) (λ u. combine present (negsuc 0 *ℤ negsuc n) row q equation row.kind) s e (explains-steps e _ h)

factor-same : (present : List plain.Entry) (a b q : ℤ) (equation row : plain.Entry) (s : plain.Stage) → pos 0 ≤ℤ a → b ≡ negsuc 0 *ℤ q → first_wide (product_of (negsuc 0) q ∷ []) ≡ None → Same (replacement present a q equation row s) (combine present a row b equation row.kind s)
factor-same present (pos n) b q equation row s l e h = rw e (then-continues (results (product_of (negsuc 0) q ∷ [])) (λ u. combine present (pos n) row (negsuc 0 *ℤ q) equation row.kind) s s tt (results-are _ s h))
factor-same present (negsuc n) b q equation row s l e h = absurd (omega (arith, ints))

size-same : (present : List plain.Entry) (a b q : ℤ) (equation row : plain.Entry) (s : plain.Stage) → a <ℤ pos 0 → b ≡ negsuc 0 *ℤ a → first_wide (product_of (negsuc 0) a ∷ []) ≡ None → Same (replacement present a q equation row s) (combine present b row q equation row.kind s)
size-same present (pos n) b q equation row s l e h = absurd (omega (arith, ints))
size-same present (negsuc n) b q equation row s l e h = rw e (then-continues (results (product_of (negsuc 0) (negsuc n) ∷ [])) (λ u. combine present (negsuc 0 *ℤ negsuc n) row q equation row.kind) s s tt (results-are _ s h))

pub factor-arises : (inputs : ℕ) (old new : Stage) (present : List Entry) (a b q : ℤ) (equation row : Entry) (result : Result Arisen SolveError) → pos 0 ≤ℤ a → b ≡ negsuc 0 *ℤ q → first_wide (product_of (negsuc 0) q ∷ []) ≡ None → DoesArise inputs old new present (combine (entries_view present) a (entry_view row) b (entry_view equation) row.kind (stage_view old)) result → DoesArise inputs old new present (replacement (entries_view present) a q (entry_view equation) (entry_view row) (stage_view old)) result
factor-arises inputs old new present a b q equation row result l e h d = same-arises inputs old new present _ _ result (factor-same (entries_view present) a b q (entry_view equation) (entry_view row) (stage_view old) l e h) d

pub size-arises : (inputs : ℕ) (old new : Stage) (present : List Entry) (a b q : ℤ) (equation row : Entry) (result : Result Arisen SolveError) → a <ℤ pos 0 → b ≡ negsuc 0 *ℤ a → first_wide (product_of (negsuc 0) a ∷ []) ≡ None → DoesArise inputs old new present (combine (entries_view present) b (entry_view row) q (entry_view equation) row.kind (stage_view old)) result → DoesArise inputs old new present (replacement (entries_view present) a q (entry_view equation) (entry_view row) (stage_view old)) result
size-arises inputs old new present a b q equation row result l e h d = same-arises inputs old new present _ _ result (size-same (entries_view present) a b q (entry_view equation) (entry_view row) (stage_view old) l e h) d

-- ---- two bounds are combined

pub bounds-fail : (x : ℕ) (present : List plain.Entry) (p n : plain.Entry) (s : plain.Stage) (e : SolveError) → ExplainsSteps e (product_of (negsuc 0) (of_row x n) ∷ []) → Explains e (combine_bounds x present p n s).events
bounds-fail x present p n s e h = then-fails (results (product_of (negsuc 0) (of_row x n) ∷ [])) (λ u. combine present (negsuc 0 *ℤ of_row x n) p (of_row x p) n (strictest p.kind n.kind)) s e (explains-steps e _ h)

pub bounds-arise : (inputs : ℕ) (old new : Stage) (present : List Entry) (x : ℕ) (upper lower : Entry) (a b : ℤ) (k : Kind) (result : Result Arisen SolveError) → a ≡ negsuc 0 *ℤ of_row x (entry_view lower) → b ≡ of_row x (entry_view upper) → k ≡ strictest upper.kind lower.kind → first_wide (product_of (negsuc 0) (of_row x (entry_view lower)) ∷ []) ≡ None → DoesArise inputs old new present (combine (entries_view present) a (entry_view upper) b (entry_view lower) k (stage_view old)) result → DoesArise inputs old new present (combine_bounds x (entries_view present) (entry_view upper) (entry_view lower) (stage_view old)) result
bounds-arise inputs old new present x upper lower a b k result d e f h g =
    same-arises inputs old new present _ _ result
    (rw (d, e, f) (then-continues (results (product_of (negsuc 0) (of_row x (entry_view lower)) ∷ [])) (λ u. combine (entries_view present) (negsuc 0 *ℤ of_row x (entry_view lower)) (entry_view upper) (of_row x (entry_view upper)) (entry_view lower) (strictest upper.kind lower.kind)) (stage_view old) (stage_view old) tt (results-are _ (stage_view old) h)))
    g
