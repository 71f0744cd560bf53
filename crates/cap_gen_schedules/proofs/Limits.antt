-- What is found is within the limits of the schedules that can be written and read.
use Rattle.std.proofs.Common.{◌≡◌, ◌∙◌, ap, refl, subst, ℕ, zero, suc, ◌+◌, ◌-◌, ◌%◌, ◌^◌, ◌<◌}
use Rattle.std.proofs.Common.{◌≤◌, Bool, true, false, cond, ◌&&◌, List, [], ◌∷◌, ◌++◌, map, get_or}
use Rattle.std.proofs.Common.{length, length-set, length-append, arith}
use Rattle.std.specs.Prelude.{ℤ, pos, ◌+ℤ◌, ◌≤ℤ◌, int_le, is_none, Option, Some, None, IfSome}
use Rattle.std.specs.Prelude.{slice_get, slice_set}
use Rattle.std.specs.List.{AllByRecursion}
use Rattle.std.specs.FinMap.{get, empty}
use Rattle.std.proofs.lemmas.Int.{ints}
use Rattle.std.proofs.lemmas.List.Elements.{All-from_recursion, All-push, recursion_from_All}
use Rattle.rand_pcg.specs.Lcg.{Lcg}
use Rattle.cap_lin.specs.Steps.{sum_of, fits, first_wide}
use Rattle.cap_lin.specs.declared.row.Op.TheVariants.{Eq as Equal}
use Rattle.cap_prog.specs.Program.{Label, PlainAct, set, read, write, cas, faa, dispose, alloc}
use Rattle.cap_prog.specs.Program.{call, fork, branch, loop, check, give_back, Block, done, first}
use Rattle.cap_prog.specs.Program.{PlainFunction}
use Rattle.cap_prog.specs.Program.{PlainProgram}
use Rattle.cap_machine.specs.declared.event.Entry.{Entry}
use Rattle.cap_machine.specs.Machine.{Frame, Thread, Configuration, Outcome, next, fault, disabled}
use Rattle.cap_machine.specs.Machine.{Spot, with_rest, new_frame, value_in, holds, compared, at_cell}
use Rattle.cap_machine.specs.Machine.{swaps, adds, are_free, may_be_at, allocates, calls, forks, returns}
use Rattle.cap_machine.specs.Machine.{does, takes_base, statement_step, thread_step, step, start}
use Rattle.cap_machine.specs.Machine.{top_frame}
use Rattle.cap_machine.specs.Laws.{is_step}
use Rattle.cap_machine.specs.Results.{act_steps, block_steps, frame_steps, entry_steps, are_narrow}
use Rattle.cap_machine.proofs.HeapLemmas.{fits_high, fits_between}
use Rattle.cap_replay_schedules.specs.Writing.{IsNarrowEntry}
use Rattle.cap_gen_schedules.specs.Drawn.{alive_from, alive, chosen, word_of, after_word, entry_of}
use Rattle.cap_gen_schedules.specs.Drawn.{Drawn, faulted, ended, taken, turn, draw, most_entries}
use Rattle.cap_gen_schedules.specs.Drawn.{draw_one, or_later, first_fault}
use Rattle.cap_gen_schedules.specs.Laws.{FoundSchedulesAreWithinLimits}

-- ---- a base whose step is narrow

sum-fits : (b : ℤ) (m : ℕ) → are_narrow (sum_of b (pos m) ∷ []) ≡ true → fits (b +ℤ pos m) ≡ true
unfolding first_wide
sum-fits b m h = go (fits (b +ℤ pos m)) h
  where
    go : (t : Bool) → is_none {T = ℤ × ℤ} (cond t None (Some (b, pos m))) ≡ true → t ≡ true
    go true e = refl
    go false e = e

base-fits : (b : ℤ) (m : ℕ) → int_le (pos 1) b ≡ true → fits (b +ℤ pos m) ≡ true → fits b ≡ true
base-fits b m e h =
    let l : pos 1 ≤ℤ b = grind (arith, ints) in
    let k = fits_high (b +ℤ pos m) h in
    fits_between b (omega (arith, ints)) (omega (arith, ints))

-- cells are only at a base that is at least 1
placed : (s t : Bool) (o : Outcome) → is_step (cond (s && t) o disabled) ≡ true → s ≡ true
placed true t o e = refl
placed false t o e = e

narrow-base :
    (p : PlainProgram) (c : Configuration) (thread : ℕ) (b : ℤ) →
    are_narrow (entry_steps c (record { thread = thread; base = Some b })) ≡ true →
    is_step (step p c (record { thread = thread; base = Some b })) ≡ true → fits b ≡ true
narrow-base p c thread b = at-thread (slice_get c.threads thread)
  where
    at-act :
        (s : Spot) (l : Label) (a : PlainAct) (rest : Block) →
        are_narrow (act_steps s.configuration.heap s.frame.store a (Some b)) ≡ true →
        is_step (statement_step p s (Some b) (first l a rest)) ≡ true → fits b ≡ true
    at-act s l (alloc x m) rest n h =
        base-fits b (m - 1)
        (placed (int_le (pos 1) b) (are_free s.configuration.heap b m) _ h)
        (sum-fits b (m - 1) n)
    at-act s l _ rest n h = absurd (cc)

    at-block :
        (s : Spot) (k : Block) →
        are_narrow (block_steps s.configuration.heap s.frame.store (Some b) k) ≡ true →
        is_step (statement_step p s (Some b) k) ≡ true → fits b ≡ true
    at-block s done n h = absurd (cc)
    at-block s (first l a rest) n h = at-act s l a rest n h

    at-thread :
        (o : Option Thread) → are_narrow (frame_steps c.heap (Some b) (top_frame o)) ≡ true →
        is_step (thread_step p c (record { thread = thread; base = Some b }) o) ≡ true →
        fits b ≡ true
    at-thread None n h = absurd (cc)
    at-thread (Some []) n h = absurd (cc)
    at-thread (Some (f ∷ fs)) n h =
        at-block (record { thread = thread; frame = f; below = fs; configuration = c }) f.rest n h

narrow-entry :
    (p : PlainProgram) (c : Configuration) (e : Entry) → e.thread < 2 ^ 32 →
    are_narrow (entry_steps c e) ≡ true → is_step (step p c e) ≡ true → IsNarrowEntry e
narrow-entry p c e l n h = (l, go e.base n h)
  where
    go :
        (o : Option ℤ) →
        are_narrow (entry_steps c (record { thread = e.thread; base = o })) ≡ true →
        is_step (step p c (record { thread = e.thread; base = o })) ≡ true →
        IfSome o (λ b. fits b ≡ true)
    go None n h = tt
    go (Some b) n h = narrow-base p c e.thread b n h

-- ---- threads: a step begins at most one

abbrev Grows : ℕ → Outcome → Type 0
Grows k (next c event) = length c.threads ≤ suc k
Grows k (fault event) = Unit {0}
Grows k disabled = Unit {0}

choice-grows : (k : ℕ) (b : Bool) (o u : Outcome) → Grows k o → Grows k u → Grows k (cond b o u)
choice-grows k true o u h i = h
choice-grows k false o u h i = i

cell-grows :
    (k : ℕ) (a : ℤ) (o : Option ℤ) (f : ℤ → Outcome) → ((v : ℤ) → Grows k (f v)) →
    Grows k (at_cell a o f)
cell-grows k a None f h = tt
cell-grows k a (Some v) f h = h v

module _ (p : PlainProgram) (s : Spot) where
  abbrev many : ℕ
  many = length s.configuration.threads

  same : (fs : List Frame) → length (slice_set s.configuration.threads s.thread fs) ≤ suc many
  same fs =
      let e : length (slice_set s.configuration.threads s.thread fs) ≡ many =
      length-set s.configuration.threads s.thread fs in omega arith

  calls-grows :
      (b : Block) (n : ℕ) (vs : List ℤ) (x : Option ℕ) (o : Option PlainFunction) →
      Grows many (calls s b n vs x o)
  calls-grows b n vs x None = tt
  calls-grows b n vs x (Some g) = same _

  forks-grows :
      (b : Block) (n : ℕ) (vs : List ℤ) (o : Option PlainFunction) → Grows many (forks s b n vs o)
  forks-grows b n vs None = tt
  forks-grows b n vs (Some g) =
      let fs = with_rest s.frame b ∷ s.below in
      let ts = slice_set s.configuration.threads s.thread fs in
      let e : length ts ≡ many = length-set s.configuration.threads s.thread fs in
      let a : length (ts ++ (new_frame n g vs None ∷ []) ∷ []) ≡ length ts + 1 =
      length-append ts ((new_frame n g vs None ∷ []) ∷ []) in omega arith

  returns-grows : (v : ℤ) (fs : List Frame) → Grows many (returns s v fs)
  returns-grows v [] = same _
  returns-grows v (f ∷ fs) = same _

  allocates-grows : (b : Block) (x n : ℕ) (base : Option ℤ) → Grows many (allocates s b x n base)
  allocates-grows b x n None = tt
  allocates-grows b x n (Some base) =
      choice-grows many (may_be_at s.configuration.heap base n) _ disabled (same _) tt

  does-grows :
      (l : Label) (a : PlainAct) (b : Block) (base : Option ℤ) → Grows many (does p s l a b base)
  does-grows l (set x t) b base = same _
  does-grows l (read x t) b base =
      cell-grows many _ (get s.configuration.heap (value_in s.frame.store t)) _ (λ v. same _)
  does-grows l (write t u) b base =
      cell-grows many _ (get s.configuration.heap (value_in s.frame.store t)) _ (λ v. same _)
  does-grows l (cas x t old new) b base =
      cell-grows many _ (get s.configuration.heap (value_in s.frame.store t))
      (swaps s b x (value_in s.frame.store t) (value_in s.frame.store old)
      (value_in s.frame.store new))
      (λ v. choice-grows many (compared Equal v (value_in s.frame.store old)) _ _ (same _)
      (same _))
  does-grows l (faa x t u) b base =
      cell-grows many _ (get s.configuration.heap (value_in s.frame.store t))
      (adds s b x (value_in s.frame.store t) (value_in s.frame.store u)) (λ v. same _)
  does-grows l (dispose t) b base =
      cell-grows many _ (get s.configuration.heap (value_in s.frame.store t)) _ (λ v. same _)
  does-grows l (alloc x n) b base = allocates-grows b x n base
  does-grows l (call x n args) b base =
      calls-grows b n (map (value_in s.frame.store) args) x (slice_get p.functions n)
  does-grows l (fork n args) b base =
      forks-grows b n (map (value_in s.frame.store) args) (slice_get p.functions n)
  does-grows l (branch c a d) b base =
      choice-grows many (holds s.frame.store c) _ _ (same _) (same _)
  does-grows l (loop c i a) b base =
      choice-grows many (holds s.frame.store c) _ _ (same _) (same _)
  does-grows l (check c) b base =
      choice-grows many (holds s.frame.store c) _ (fault _) (same _) tt
  does-grows l (give_back t) b base = returns-grows (value_in s.frame.store t) s.below

step-grows :
    (p : PlainProgram) (c : Configuration) (e : Entry) → Grows (length c.threads) (step p c e)
step-grows p c e = go (slice_get c.threads e.thread)
  where
    block : (s : Spot) (b : Block) → Grows (many p s) (statement_step p s e.base b)
    block s done = tt
    block s (first l a b) =
        choice-grows (many p s) (takes_base a e.base) _ disabled (does-grows p s l a b e.base) tt

    go : (o : Option Thread) → Grows (length c.threads) (thread_step p c e o)
    go None = tt
    go (Some []) = tt
    go (Some (f ∷ fs)) =
        block (record { thread = e.thread; frame = f; below = fs; configuration = c }) f.rest

-- ---- the thread that a word chooses

abbrev AreBelow : ℕ → List ℕ → Type 0
AreBelow k ts = AllByRecursion (λ t. t < k) ts

alive-below : (i k : ℕ) (ts : List Thread) → i + length ts ≤ k → AreBelow k (alive_from i ts)
alive-below i k [] l = tt
alive-below i k ([] ∷ ts) l = alive-below (suc i) k ts (omega arith)
alive-below i k ((f ∷ fs) ∷ ts) l = (omega arith, alive-below (suc i) k ts (omega arith))

one-below : (k i : ℕ) (ts : List ℕ) → 0 < k → AreBelow k ts → get_or ts i 0 < k
one-below k i [] l h = l
one-below k zero (t ∷ ts) l h = h.0
one-below k (suc i) (t ∷ ts) l h = one-below k i ts l h.1

-- ---- what is drawn

record AreWithin (es : List Entry) : Type 0 where
  each : AllByRecursion IsNarrowEntry es
  few : length es ≤ 1000

one-more :
    (es : List Entry) (e : Entry) → AreWithin es → length es < 1000 → IsNarrowEntry e →
    AreWithin (es ++ e ∷ [])
one-more es e w l n = record {
  each =
      recursion_from_All IsNarrowEntry (es ++ e ∷ [])
      (All-push IsNarrowEntry es e (All-from_recursion IsNarrowEntry es w.each) n);
  few = omega (arith, length-append es (e ∷ []));
}

draws-within :
    (p : PlainProgram) (n : ℕ) (g : Lcg) (c : Configuration) (es all : List Entry) →
    length c.threads ≤ suc (length es) → length es + n ≤ 1000 → AreWithin es →
    draw p n g c es ≡ faulted all → AreWithin all
unfolding draw
draws-within p zero g c es all t l w h = absurd (cc)
draws-within p (suc n) g c es all t l w h =
    in-turn (λ d k fs u m v i. draws-within p n k d fs all u m v i) (alive c)
    (alive-below 0 (suc (length es)) c.threads (omega arith)) h
  where
    Later : Type 0
    Later =
        (d : Configuration) (k : Lcg) (fs : List Entry) → length d.threads ≤ suc (length fs) →
        length fs + n ≤ 1000 → AreWithin fs → draw p n k d fs ≡ faulted all → AreWithin all

    longer : (e : Entry) → length (es ++ e ∷ []) ≡ length es + 1
    longer e = length-append es (e ∷ [])

    by-outcome :
        Later → (e : Entry) → e.thread < suc (length es) → (b : Bool) (o : Outcome) →
        are_narrow (entry_steps c e) ≡ b → step p c e ≡ o → Grows (length c.threads) o →
        taken b e es (after_word g) (λ d fs k. draw p n k d fs) o ≡ faulted all → AreWithin all
    by-outcome later e k b disabled q i r m = absurd (cc)
    by-outcome later e k false (next d x) q i r m = absurd (cc)
    by-outcome later e k true (next d x) q i r m =
        later d (after_word g) (es ++ e ∷ []) (omega (arith, longer e)) (omega (arith, longer e))
        (one-more es e w (omega arith) (narrow-entry p c e (omega arith) q (ap is_step i))) m
    by-outcome later e k false (fault x) q i r m = absurd (cc)
    by-outcome later e k true (fault x) q i r m =
        let j : es ++ e ∷ [] ≡ all = cc in
        subst AreWithin j
        (one-more es e w (omega arith) (narrow-entry p c e (omega arith) q (ap is_step i)))

    in-turn :
        Later → (ts : List ℕ) → AreBelow (suc (length es)) ts →
        turn p g c es (λ d fs k. draw p n k d fs) ts ≡ faulted all → AreWithin all
    in-turn later [] k m = absurd (cc)
    in-turn later (t ∷ ts) k m =
        let e = entry_of c (chosen (word_of g) (t ∷ ts)) in
        by-outcome later e
        (one-below (suc (length es)) (word_of g % length (t ∷ ts)) (t ∷ ts) (omega arith) k)
        (are_narrow (entry_steps c e)) (step p c e) refl refl (step-grows p c e) m

most-fit : length {A = Entry} [] + most_entries ≤ 1000
unfolding most_entries
most-fit = omega arith

found-within :
    (p : PlainProgram) (count : ℕ) (g : Lcg) (es : List Entry) →
    first_fault p count g ≡ Some es → AreWithin es
unfolding first_fault
found-within p zero g es h = absurd (cc)
found-within p (suc n) g es h = by-drawn (λ k m. found-within p n k es m) (draw_one p g) refl h
  where
    by-drawn :
        ((k : Lcg) → first_fault p n k ≡ Some es → AreWithin es) → (d : Drawn) →
        draw_one p g ≡ d → or_later d (λ k. first_fault p n k) ≡ Some es → AreWithin es
    by-drawn later (faulted fs) q m =
        let e : fs ≡ es = cc in
        draws-within p most_entries g (start p [] empty) [] es (omega arith) most-fit
        (record { each = tt; few = omega arith }) (q ∙ ap faulted e)
    by-drawn later (ended k) q m = later k m

pub found-limits : FoundSchedulesAreWithinLimits
found-limits p count g es f =
    let w = found-within p count g es f in
    record { args = tt; cells = tt; addresses = tt; entries = w.each; few = omega (arith, w.few) }
