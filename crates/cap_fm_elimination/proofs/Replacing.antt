-- The rows that are replaced one after the other.
use Rattle.std.proofs.Common.{◌≡◌, ℕ, ℤ, pos, negsuc, ◌+ℤ◌, ◌*ℤ◌, neg_ℤ, List, [], ◌∷◌, ◌++◌, length, cond, refl, sym, ap, ◌∙◌, subst, arith, append-nil, append_assoc, Bool, true, false}
use Rattle.std.specs.Prelude.{◌||◌, if◌then◌else◌}
use Rattle.std.proofs.lemmas.Int.{ints}
use Rattle.std.proofs.lemmas.List.{map-append}
use Rattle.std.proofs.lemmas.List.Folds.{list_any-append}
use Rattle.cap_numbers.proofs.Ring.{neg-mul}
use Rattle.cap_lin.specs.Linear.{Linear, is_zero, coefficient, combination}
use Rattle.cap_lin.specs.Steps.{product_of, combination_steps}
use Rattle.cap_lin.specs.declared.row.Kind.{Kind}
use Rattle.cap_lin.proofs.Combinations.{combination-coefficient}
use Rattle.cap_lin.proofs.Results.{is_zero-yes}
use Rattle.cap_fm_spec.specs.Runs as plain
use Rattle.cap_fm_spec.specs.Runs.{Run, Elimination, combined, going, contradiction, done, results, ◌>>=◌}
use Rattle.cap_fm_spec.specs.Rows.{same_row, is_present, has_parts, count, look, of_row}
use Rattle.cap_fm_spec.specs.Elimination.{replacement, replace, replace_all}
use Rattle.cap_fm_elimination.specs.Entries.{Entry}
use Rattle.cap_fm_elimination.specs.declared.entry.Present.{Present}
use Rattle.cap_fm_elimination.specs.declared.entry.FalseRow.{FalseRow}
use Rattle.cap_fm_elimination.specs.declared.entry.Arisen.TheVariants.{LeftOut, Kept, False}
use Rattle.cap_fm_elimination.specs.declared.stage.Stage.{Stage}
use Rattle.cap_fm_elimination.specs.declared.error.SolveError.{SolveError}
use Rattle.cap_fm_elimination.specs.Views.{stage_view, entry_view, entries_view, entry_of, false_view, lacking_rows, IsStageOf, IsLast, IsNumbered, AreNumbered}
use Rattle.cap_fm_elimination.specs.Answers.{Replacement, Explains, Is, Same, Arises}
use Rattle.cap_fm_elimination.proofs.Runs.{then-continues, then-stops, then-fails, same-is, same-explains, same-then, same-refl}
use Rattle.cap_fm_spec.proofs.Lists.{each-join, each-left, each-right}
use Rattle.cap_fm_elimination.proofs.Stages.{all-grow}
use Rattle.cap_fm_elimination.proofs.Presence.{zero-present}
use Rattle.cap_fm_elimination.proofs.Runs.{done-is}

-- ---- a combination with the equation lacks the variable

cancels : (e q : ℤ) → e *ℤ q +ℤ (negsuc 0 *ℤ q) *ℤ e ≡ pos 0
cancels e q = let n : negsuc 0 *ℤ q ≡ neg_ℤ q = omega (arith, ints) in rw (n, neg-mul q e) (omega (arith, ints))

cancels-turned : (e q : ℤ) → (negsuc 0 *ℤ e) *ℤ q +ℤ q *ℤ e ≡ pos 0
cancels-turned e q = let n : negsuc 0 *ℤ e ≡ neg_ℤ e = omega (arith, ints) in rw (n, neg-mul e q) (omega (arith, ints))

lacks : (x : ℕ) (e q : ℤ) (r s : Linear) → e ≡ coefficient x s.parts → q ≡ coefficient x r.parts → is_zero (coefficient x (combination e r (negsuc 0 *ℤ q) s).parts) ≡ true
lacks x e q r s d f = is_zero-yes _ (combination-coefficient x e r (negsuc 0 *ℤ q) s ∙ rw (sym d, sym f) (cancels e q))

lacks-turned : (x : ℕ) (e q : ℤ) (r s : Linear) → e ≡ coefficient x s.parts → q ≡ coefficient x r.parts → is_zero (coefficient x (combination (negsuc 0 *ℤ e) r q s).parts) ≡ true
lacks-turned x e q r s d f = is_zero-yes _ (combination-coefficient x (negsuc 0 *ℤ e) r q s ∙ rw (sym d, sym f) (cancels-turned e q))

-- ---- only its presence is asked of the rows

abbrev made_of : Bool → ℤ → plain.Entry → ℤ → plain.Entry → Kind → Elimination (List plain.Entry)
made_of b a p c q k =
    results (combination_steps a p.term c q.term) >>= (λ u. if has_parts (combination a p.term c q.term) then (count (combination a p.term c q.term) k >>= (λ v. if b then done [] else look (combination a p.term c q.term) k (combined a p.origin c q.origin))) else look (combination a p.term c q.term) k (combined a p.origin c q.origin))

replacement-by : (x : ℕ) (ps qs : List plain.Entry) (e q : ℤ) (equation r : plain.Entry) (s : plain.Stage) → e ≡ of_row x equation → q ≡ of_row x r → ((t : Linear) (k : Kind) → is_zero (coefficient x t.parts) ≡ true → is_present t k ps ≡ is_present t k qs) → replacement ps e q equation r s ≡ replacement qs e q equation r s
replacement-by x ps qs (pos n) q equation r s d f h = ap (λ b. (results (product_of (negsuc 0) q ∷ []) >>= (λ u. made_of b (pos n) r (negsuc 0 *ℤ q) equation r.kind)) s) (h _ r.kind (lacks x (pos n) q r.term equation.term d f))
replacement-by x ps qs (negsuc n) q equation r s d f h = ap (λ b. (results (product_of (negsuc 0) (negsuc n) ∷ []) >>= (λ u. made_of b (negsuc 0 *ℤ negsuc n) r q equation r.kind)) s) (h _ r.kind (lacks-turned x (negsuc n) q r.term equation.term d f))

-- ---- presence in lists in a row

present-append : (t : Linear) (k : Kind) (ds es : List Entry) → is_present t k (entries_view (ds ++ es)) ≡ (is_present t k (entries_view ds) || is_present t k (entries_view es))
present-append t k ds es = ap (is_present t k) (map-append entry_view ds es) ∙ list_any-append (λ r. same_row t k r.term r.kind) (entries_view ds) (entries_view es)

rest-lacking : (x : ℕ) (held rest : List Entry) (t : Linear) (k : Kind) → is_zero (coefficient x t.parts) ≡ true → is_present t k (entries_view held ++ entries_view rest) ≡ is_present t k (entries_view (held ++ lacking_rows x rest))
rest-lacking x held rest t k z =
    list_any-append (λ r. same_row t k r.term r.kind) (entries_view held) (entries_view rest)
    ∙ ap (λ b. is_present t k (entries_view held) || b) (zero-present x t k rest z)
    ∙ sym (present-append t k held (lacking_rows x rest))

exchanged : (a b c : Bool) → ((a || c) || b) ≡ ((a || b) || c)
exchanged true true true = refl
exchanged true true false = refl
exchanged true false true = refl
exchanged true false false = refl
exchanged false true true = refl
exchanged false true false = refl
exchanged false false true = refl
exchanged false false false = refl

present-moved : (t : Linear) (k : Kind) (ds es fs : List Entry) → is_present t k (entries_view ((ds ++ es) ++ fs)) ≡ is_present t k (entries_view ((ds ++ fs) ++ es))
present-moved t k ds es fs =
    present-append t k (ds ++ es) fs
    ∙ ap (λ b. b || is_present t k (entries_view fs)) (present-append t k ds es)
    ∙ exchanged (is_present t k (entries_view ds)) (is_present t k (entries_view fs)) (is_present t k (entries_view es))
    ∙ sym (present-append t k (ds ++ fs) es ∙ ap (λ b. b || is_present t k (entries_view es)) (present-append t k ds fs))

fits-moved : (inputs : ℕ) (s : Stage) (ds es fs : List Entry) → IsStageOf inputs s ((ds ++ es) ++ fs) → IsStageOf inputs s ((ds ++ fs) ++ es)
fits-moved inputs s ds es fs f =
    let n = each-left (IsNumbered s) (ds ++ es) fs f.numbered in
    record {
      marked = record { long = f.marked.long; tell = λ t k a. f.marked.tell t k a ∙ present-moved t k ds es fs };
      numbered = each-join (IsNumbered s) (ds ++ fs) es (each-join (IsNumbered s) ds fs (each-left (IsNumbered s) ds es n) (each-right (IsNumbered s) (ds ++ es) fs f.numbered)) (each-right (IsNumbered s) ds es n);
      history = f.history;
    }

-- ---- one row after the other

all-nil : (x : ℕ) (equation : plain.Entry) (before : List plain.Entry) → replace_all x equation before [] ≡ done before
unfolding replace_all
all-nil x equation before = refl

all-cons : (x : ℕ) (equation : plain.Entry) (before : List plain.Entry) (r : plain.Entry) (rows : List plain.Entry) → replace_all x equation before (r ∷ rows) ≡ (replace x equation (before ++ rows) r >>= (λ new. replace_all x equation (before ++ new) rows))
unfolding replace_all
all-cons x equation before r rows = refl

-- the work that remains
pub record AllGoes (inputs x : ℕ) (equation : Entry) (old now : Stage) (held all rest : List Entry) : Type 0 where
  pub fits : IsStageOf inputs now (held ++ lacking_rows x rest)
  pub numbered : AreNumbered now rest
  pub equation_numbered : IsNumbered now equation
  pub same : Same (replace_all x (entry_view equation) [] (entries_view all) (stage_view old)) (replace_all x (entry_view equation) (entries_view held) (entries_view rest) (stage_view now))

pub all-starts : (inputs x : ℕ) (equation : Entry) (s : Stage) (held all rest : List Entry) → held ≡ [] → rest ≡ all → IsStageOf inputs s (lacking_rows x all) → AreNumbered s all → IsNumbered s equation → AllGoes inputs x equation s s held all rest
all-starts inputs x equation s held all rest h r f n m = rw (h, r) (record { fits = f; numbered = n; equation_numbered = m; same = same-refl _ })

step-same : (x : ℕ) (equation d : Entry) (held more rest : List Entry) (s t : plain.Stage) (new : List plain.Entry) → Is (going new) t (replace x (entry_view equation) (entries_view held ++ entries_view rest) (entry_view d) s) → entries_view held ++ new ≡ entries_view more → Same (replace_all x (entry_view equation) (entries_view held) (entries_view (d ∷ rest)) s) (replace_all x (entry_view equation) (entries_view more) (entries_view rest) t)
step-same x equation d held more rest s t new i m =
    subst (λ es. Same (replace_all x (entry_view equation) (entries_view held) (entries_view (d ∷ rest)) s) (replace_all x (entry_view equation) es (entries_view rest) t)) m
    (rw (all-cons x (entry_view equation) (entries_view held) (entry_view d) (entries_view rest)) (then-continues (replace x (entry_view equation) (entries_view held ++ entries_view rest) (entry_view d)) (λ es. replace_all x (entry_view equation) (entries_view held ++ es) (entries_view rest)) s t new i))

-- a row without the variable stays
stays : (x : ℕ) (equation d : Entry) (present : List plain.Entry) (s : plain.Stage) → is_zero (coefficient x d.term.parts) ≡ true → Is (going (entry_view d ∷ [])) s (replace x (entry_view equation) present (entry_view d) s)
stays x equation d present s z = rw z (done-is _ _)

pub all-stays : (inputs x : ℕ) (equation d : Entry) (old now : Stage) (held more all rest : List Entry) → is_zero (coefficient x d.term.parts) ≡ true → more ≡ held ++ (d ∷ []) → AllGoes inputs x equation old now held all (d ∷ rest) → AllGoes inputs x equation old now more all rest
all-stays inputs x equation d old now held more all rest z m h = subst (λ es. AllGoes inputs x equation old now es all rest) (sym m) (record {
  fits = subst (IsStageOf inputs now) (ap (λ b. held ++ cond b (d ∷ lacking_rows x rest) (lacking_rows x rest)) z ∙ sym (append_assoc held (d ∷ []) (lacking_rows x rest))) h.fits;
  numbered = h.numbered.1;
  equation_numbered = h.equation_numbered;
  same = same-then _ _ _ h.same (step-same x equation d held (held ++ (d ∷ [])) rest (stage_view now) (stage_view now) (entry_view d ∷ []) (stays x equation d (entries_view held ++ entries_view rest) (stage_view now) z) (sym (map-append entry_view held (d ∷ []))));
})

-- a row with the variable is replaced, as if the rows with the variable were present still
run-same : (x : ℕ) (equation d : Entry) (held rest : List Entry) (s : plain.Stage) → is_zero (coefficient x d.term.parts) ≡ false → replace x (entry_view equation) (entries_view held ++ entries_view rest) (entry_view d) s ≡ replacement (entries_view (held ++ lacking_rows x rest)) (of_row x (entry_view equation)) (of_row x (entry_view d)) (entry_view equation) (entry_view d) s
run-same x equation d held rest s z =
    ap (λ b. (if b then done (entry_view d ∷ []) else replacement (entries_view held ++ entries_view rest) (of_row x (entry_view equation)) (of_row x (entry_view d)) (entry_view equation) (entry_view d)) s) z
    ∙ replacement-by x (entries_view held ++ entries_view rest) (entries_view (held ++ lacking_rows x rest)) (of_row x (entry_view equation)) (of_row x (entry_view d)) (entry_view equation) (entry_view d) s refl refl (rest-lacking x held rest)

-- without it, fewer rows are present
pub fits-rest : (inputs x : ℕ) (s : Stage) (d : Entry) (held rest : List Entry) → is_zero (coefficient x d.term.parts) ≡ false → IsStageOf inputs s (held ++ lacking_rows x (d ∷ rest)) → IsStageOf inputs s (held ++ lacking_rows x rest)
fits-rest inputs x s d held rest z f = subst (IsStageOf inputs s) (ap (λ b. held ++ cond b (d ∷ lacking_rows x rest) (lacking_rows x rest)) z) f

abbrev RunOf : ℕ → Entry → Entry → Stage → List Entry → List Entry → Run (List plain.Entry)
RunOf x equation d now held rest = Replacement x equation d (held ++ lacking_rows x rest) now

-- the same run, by rows and coefficients that are equal to these
pub run-by : (x : ℕ) (equation d e f : Entry) (present : List Entry) (now : Stage) (a q : ℤ) → e ≡ equation → f ≡ d → a ≡ of_row x (entry_view equation) → q ≡ of_row x (entry_view d) → replacement (entries_view present) a q (entry_view e) (entry_view f) (stage_view now) ≡ Replacement x equation d present now
run-by x equation d e f present now a q i j g h =
    ap (λ (u : Entry). replacement (entries_view present) a q (entry_view u) (entry_view f) (stage_view now)) i
    ∙ ap (λ (u : Entry). replacement (entries_view present) a q (entry_view equation) (entry_view u) (stage_view now)) j
    ∙ ap (λ b. replacement (entries_view present) b q (entry_view equation) (entry_view d) (stage_view now)) g
    ∙ ap (λ b. replacement (entries_view present) (of_row x (entry_view equation)) b (entry_view equation) (entry_view d) (stage_view now)) h

pub all-left_out : (inputs x : ℕ) (equation d : Entry) (old now new : Stage) (held all rest : List Entry) → is_zero (coefficient x d.term.parts) ≡ false → Arises inputs now new (held ++ lacking_rows x rest) (RunOf x equation d now held rest) LeftOut → AllGoes inputs x equation old now held all (d ∷ rest) → AllGoes inputs x equation old new held all rest
all-left_out inputs x equation d old now new held all rest z a h = record {
  fits = a.1;
  numbered = all-grow now new rest a.2 h.numbered.1;
  equation_numbered = a.2 equation h.equation_numbered;
  same = same-then _ _ _ h.same (step-same x equation d held held rest (stage_view now) (stage_view new) [] (subst (Is (going []) (stage_view new)) (sym (run-same x equation d held rest (stage_view now) z)) a.0) (append-nil (entries_view held)));
}

pub all-kept : (inputs x : ℕ) (equation d : Entry) (e : Present) (old now new : Stage) (held more all rest : List Entry) → is_zero (coefficient x d.term.parts) ≡ false → more ≡ held ++ (entry_of new e ∷ []) → Arises inputs now new (held ++ lacking_rows x rest) (RunOf x equation d now held rest) (Kept e) → AllGoes inputs x equation old now held all (d ∷ rest) → AllGoes inputs x equation old new more all rest
all-kept inputs x equation d e old now new held more all rest z m a h = subst (λ es. AllGoes inputs x equation old new es all rest) (sym m) (record {
  fits = fits-moved inputs new held (lacking_rows x rest) (entry_of new e ∷ []) a.1;
  numbered = all-grow now new rest a.2 h.numbered.1;
  equation_numbered = a.2 equation h.equation_numbered;
  same = same-then _ _ _ h.same (step-same x equation d held (held ++ (entry_of new e ∷ [])) rest (stage_view now) (stage_view new) (entry_view (entry_of new e) ∷ []) (subst (Is (going (entry_view (entry_of new e) ∷ [])) (stage_view new)) (sym (run-same x equation d held rest (stage_view now) z)) a.0) (sym (map-append entry_view held (entry_of new e ∷ []))));
})

pub all-false : (inputs x : ℕ) (equation d : Entry) (e : FalseRow) (old now new : Stage) (held all rest : List Entry) → is_zero (coefficient x d.term.parts) ≡ false → Arises inputs now new (held ++ lacking_rows x rest) (RunOf x equation d now held rest) (False e) → AllGoes inputs x equation old now held all (d ∷ rest) → Is (contradiction (false_view e)) (stage_view new) (replace_all x (entry_view equation) [] (entries_view all) (stage_view old)) × IsLast inputs new e
all-false inputs x equation d e old now new held all rest z a h =
    let i : Is (contradiction (false_view e)) (stage_view new) (replace x (entry_view equation) (entries_view held ++ entries_view rest) (entry_view d) (stage_view now)) = subst (Is (contradiction (false_view e)) (stage_view new)) (sym (run-same x equation d held rest (stage_view now) z)) a.0 in
    let s : Is (contradiction (false_view e)) (stage_view new) (replace_all x (entry_view equation) (entries_view held) (entries_view (d ∷ rest)) (stage_view now)) = rw (all-cons x (entry_view equation) (entries_view held) (entry_view d) (entries_view rest)) (then-stops (replace x (entry_view equation) (entries_view held ++ entries_view rest) (entry_view d)) (λ es. replace_all x (entry_view equation) (entries_view held ++ es) (entries_view rest)) (stage_view now) (stage_view new) (false_view e) i) in
    (same-is _ _ _ (replace_all x (entry_view equation) (entries_view held) (entries_view (d ∷ rest)) (stage_view now)) h.same s, a.1)

pub all-fails : (inputs x : ℕ) (equation d : Entry) (e : SolveError) (old now : Stage) (held all rest : List Entry) → is_zero (coefficient x d.term.parts) ≡ false → Explains e (RunOf x equation d now held rest).events → AllGoes inputs x equation old now held all (d ∷ rest) → Explains e (replace_all x (entry_view equation) [] (entries_view all) (stage_view old)).events
all-fails inputs x equation d e old now held all rest z f h =
    let g : Explains e (replace x (entry_view equation) (entries_view held ++ entries_view rest) (entry_view d) (stage_view now)).events = subst (λ (r : Run (List plain.Entry)). Explains e r.events) (sym (run-same x equation d held rest (stage_view now) z)) f in
    same-explains e _ (replace_all x (entry_view equation) (entries_view held) (entries_view (d ∷ rest)) (stage_view now)) h.same
    (rw (all-cons x (entry_view equation) (entries_view held) (entry_view d) (entries_view rest)) (then-fails (replace x (entry_view equation) (entries_view held ++ entries_view rest) (entry_view d)) (λ es. replace_all x (entry_view equation) (entries_view held ++ es) (entries_view rest)) (stage_view now) e g))

pub all-ends : (inputs x : ℕ) (equation : Entry) (old now : Stage) (held all rest : List Entry) → rest ≡ [] → AllGoes inputs x equation old now held all rest → Is (going (entries_view held)) (stage_view now) (replace_all x (entry_view equation) [] (entries_view all) (stage_view old)) × IsStageOf inputs now held
all-ends inputs x equation old now held all rest n h =
    let e : AllGoes inputs x equation old now held all [] = subst (AllGoes inputs x equation old now held all) n h in
    (same-is _ _ _ (replace_all x (entry_view equation) (entries_view held) [] (stage_view now)) e.same (rw (all-nil x (entry_view equation) (entries_view held)) (done-is _ _)), subst (IsStageOf inputs now) (append-nil held) e.fits)

pub no-items : {X : Type 0} (xs : List X) (n : ℕ) → length xs ≡ n → n ≡ 0 → xs ≡ []
no-items [] n e z = refl
no-items (x ∷ xs) n e z = absurd (omega arith)
