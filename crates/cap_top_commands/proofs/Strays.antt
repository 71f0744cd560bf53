-- What is said of the schedules that are drawn of a program, and nothing else; and what it means.
use Rattle.std.proofs.Common.{◌≡◌, ◌↔◌, map, ℕ, zero, suc, ◌==◌, ◌⊎◌, inl, inr, Bool, List, [], ◌∷◌, length, Option, Some, None, Result, Ok, Err, IfOk, refl, sym, ap, ◌∙◌, subst, arith, rules}
use Rattle.std.specs.Bool.{IsTrue}
use Rattle.std.proofs.lemmas.Bool.Decides.{nat_tests}
use Rattle.std.specs.Prelude.{IsSomeAnd, slice_get}
use Rattle.std.specs.FinMap.{from_entries, empty}
use Rattle.std.specs.declared.alloc.AllocError.{AllocError}
use Rattle.cap_prog.specs.declared.program.Program.{Program}
use Rattle.cap_prog.specs.declared.assertion.Item.{Item}
use Rattle.cap_prog.specs.declared.assertion.Item.TheFolds.{the_lemmas}
use Rattle.cap_prog.specs.declared.assertion.Assertion.{Assertion}
use Rattle.cap_prog.specs.declared.function.Function.{Function}
use Rattle.cap_prog.specs.Program.{Items, items_of, none, item, PlainFunction, PlainProgram}
use Rattle.cap_prog.specs.Views.{item_view, items_view, function_view, program_view}
use Rattle.cap_machine.specs.declared.event.Entry.{Entry}
use Rattle.cap_machine.specs.Machine.{start}
use Rattle.cap_replay_schedules.specs.declared.entries.Schedule.{Schedule}
use Rattle.cap_replay.specs.declared.playing.End.TheVariants.{Stopped}
use Rattle.cap_replay_schedules.specs.declared.reading.ScheduleError.{ScheduleError}
use Rattle.cap_replay_schedules.specs.Reading.{Progress, read}
use Rattle.cap_replay.specs.RunText.{run_from}
use Rattle.cap_replay_schedules.specs.Writing.{PlainSchedule, schedule_view, schedule_text, IsReadWhole}
use Rattle.cap_gen_schedules.specs.Drawn.{seeded, first_fault}
use Rattle.cap_gen_schedules.specs.Laws.{AsksForNothing, TakesNothing, drawn_schedule, FoundSchedulesFault, FoundSchedulesAreReadBack, SafeProgramsHaveNone}
use Rattle.cap_top_reading.specs.declared.refusal.Refusal.{Refusal}
use Rattle.cap_top_reading.specs.Reading.{FindsProgram}
use Rattle.cap_top_reading.specs.Refused.{IsRefused, IsTextOf}
use Rattle.cap_top_commands.specs.declared.output.Output as code
use Rattle.cap_top_commands.specs.declared.status.Status.TheVariants.{Good, Bad, Refused}
use Rattle.cap_top_commands.specs.Output.{Output, refusal_output, no_start_output, stray_output, no_stray_output}
use Rattle.cap_top_commands.specs.Answers.{IsStray, IsStrayed, IsOnly, drawn_output, FaultsAlong, SafeTextsHaveNoStray}
use Rattle.cap_top_commands.specs.Schedules.{run_along}
use Rattle.cap_top_commands.specs.Views.{output_view}
use Rattle.cap_top_commands.proofs.Answering.{AnswersRefusal, found_says, refused_says}
use Rattle.cap_top_commands.proofs.Good.{same_status}

-- ---- what `main` asks for

takes-of : (o : Option PlainFunction) → IsSomeAnd o (λ f. (0 ≡ f.params) × (f.requires ≡ none)) → IsSomeAnd o (λ f. 0 ≡ f.params)
takes-of None h = h
takes-of (Some f) h = h.0

-- who asks for nothing takes nothing
pub takes-nothing : (p : PlainProgram) → AsksForNothing p → TakesNothing p
takes-nothing p h = takes-of (slice_get p.functions p.main) h

-- ---- the text of a schedule that was found

pub drawn-text : (s : Schedule) → s.args.items ≡ [] → s.heap.items ≡ [] → schedule_text (schedule_view s) ≡ schedule_text (drawn_schedule s.entries.items)
drawn-text s a h =
    ap (λ xs. schedule_text (record { args = xs; heap = s.heap.items; entries = s.entries.items })) a
    ∙ ap (λ xs. schedule_text (record { args = []; heap = xs; entries = s.entries.items })) h

-- ---- what is said of a program

pub says-drawn : (number count : ℕ) (p : PlainProgram) (r : Result code.Output AllocError) → AsksForNothing p
    → IfOk r (λ o. output_view o ≡ drawn_output count (first_fault p count (seeded number)))
    → IfOk r (λ o. IsOnly (IsStray number count p) (output_view o))
says-drawn number count p (Err a) asks h = tt
says-drawn number count p (Ok o) asks h = record { said = inr (asks, h); only = by }
  where
    by : (q : Output) → IsStray number count p q → output_view o ≡ q
    by q (inl k) = absurd (k.0 asks)
    by q (inr k) = h ∙ sym k.1

pub says-no-start : (number count : ℕ) (p : PlainProgram) → (¬ AsksForNothing p) → IsOnly (IsStray number count p) no_start_output
says-no-start number count p asks = record { said = inl (asks, refl); only = by }
  where
    by : (q : Output) → IsStray number count p q → no_start_output ≡ q
    by q (inl k) = sym k.1
    by q (inr k) = absurd (asks k.0)

pub stray-says : (number count : ℕ) (bytes : List ℕ) (program : Program) (r : Result code.Output AllocError) → FindsProgram bytes (Ok program)
    → IfOk r (λ o. IsOnly (IsStray number count (program_view program)) (output_view o))
    → IfOk r (λ o. IsOnly (IsStrayed number count bytes) (output_view o))
stray-says number count bytes program (Ok o) f h =
    let said = found_says program_view (IsTextOf bytes) (IsRefused bytes) (IsStray number count) program (output_view o) f
    (record { said = h.said; only = h.only }) in
    record { said = said.said; only = said.only }
stray-says number count bytes program (Err a) f h = tt

pub stray-refused : (number count : ℕ) (bytes : List ℕ) (e : Refusal) (r : Result code.Output AllocError)
    → FindsProgram bytes (Err e) → AnswersRefusal e r
    → IfOk r (λ o. IsOnly (IsStrayed number count bytes) (output_view o))
stray-refused number count bytes e (Ok o) f h =
    let said = refused_says program_view (IsTextOf bytes) (IsRefused bytes) (IsStray number count) e (Ok o) f h in
    record { said = said.said; only = said.only }
stray-refused number count bytes e (Err a) f h = tt

-- ---- a schedule that is said ends in a fault

-- what was read of the text of these entries
record IsReadTo (s : PlainSchedule) (r : Result Progress ScheduleError) : Type 0 where
  progress : Progress
  is : r ≡ Ok progress
  args : s.args ≡ progress.args
  heap : s.heap ≡ progress.heap
  entries : s.entries ≡ progress.entries

read-to : (s : PlainSchedule) (r : Result Progress ScheduleError) → IsReadWhole s r → IsReadTo s r
read-to s (Ok p) h = record { progress = p; is = refl; args = h.0; heap = h.1; entries = h.2 }
read-to s (Err e) h = absurd h

module _ (fault : FoundSchedulesFault) (back : FoundSchedulesAreReadBack)
    (number count : ℕ) (bytes : List ℕ) where
  faults : (o : Output) (p : PlainProgram) → IsTextOf bytes p → AsksForNothing p → (es : List Entry)
      → first_fault p count (seeded number) ≡ Some es → o ≡ stray_output (schedule_text (drawn_schedule es))
      → FaultsAlong bytes o.text
  faults o p t asks es found e =
      let s = drawn_schedule es in
      let k = read-to s (read (schedule_text s)) (back p count (seeded number) es found) in
      let whole : o.text ≡ schedule_text s = ap (λ (q : Output). q.text) e in
      record {
        program = p;
        text_of_it = t;
        schedule = k.progress;
        reads = ap read whole ∙ k.is;
        takes = subst (λ xs. IsSomeAnd (slice_get p.functions p.main) (λ f. length xs ≡ f.params)) k.args (takes-nothing p asks);
        stops = same k.progress k.args k.heap k.entries ∙ (fault p count (seeded number) es found ∙ ap (λ xs. Stopped (length xs)) k.entries);
      }
    where
      same : (q : Progress) → [] ≡ q.args → [] ≡ q.heap → es ≡ q.entries → (run_along p q).end ≡ (run_from p 0 (start p [] empty) es).end
      same q a h x =
          ap (λ xs. (run_from p 0 (start p xs (from_entries q.heap)) q.entries).end) (sym a)
          ∙ (ap (λ xs. (run_from p 0 (start p [] (from_entries xs)) q.entries).end) (sym h)
          ∙ ap (λ xs. (run_from p 0 (start p [] empty) xs).end) (sym x))

  drawn-faults : (o : Output) (p : PlainProgram) → IsTextOf bytes p → AsksForNothing p → (found : Option (List Entry))
      → first_fault p count (seeded number) ≡ found → o ≡ drawn_output count found → o.status ≡ Bad
      → FaultsAlong bytes o.text
  drawn-faults o p t asks (Some es) f e b = faults o p t asks es f e
  drawn-faults o p t asks None f e b = let g : Good ≡ Bad = sym (same_status o (no_stray_output count) e) ∙ b in absurd cc

  pub strays-fault : (o : Output) → IsStrayed number count bytes o → o.status ≡ Bad → FaultsAlong bytes o.text
  strays-fault o (inl c) b = let g : Refused ≡ Bad = sym (same_status o (refusal_output c.cause) c.whole) ∙ b in absurd cc
  strays-fault o (inr s) b = by s.said
    where
      by : IsStray number count s.thing o → FaultsAlong bytes o.text
      by (inl k) = let g : Refused ≡ Bad = sym (same_status o no_start_output k.1) ∙ b in absurd cc
      by (inr k) = drawn-faults o s.thing s.is_so k.0 (first_fault s.thing count (seeded number)) refl k.1 b

-- ---- none is said of a safe program

none-or : (r : Items) → (r ≡ none) ⊎ (¬ (r ≡ none))
none-or none = inl refl
none-or (item i is) = inr (λ e. cc)

nought-or : (n : ℕ) → (0 ≡ n) ⊎ (¬ (0 ≡ n))
nought-or zero = inl refl
nought-or (suc n) = inr (λ e. cc)

both-or : {A B : Type 0} → A ⊎ (¬ A) → B ⊎ (¬ B) → (A × B) ⊎ (¬ (A × B))
both-or (inl a) (inl b) = inl (a, b)
both-or (inl a) (inr n) = inr (λ h. n h.1)
both-or (inr n) b = inr (λ h. n h.0)

asks-or-of : (o : Option PlainFunction) → IsSomeAnd o (λ f. (0 ≡ f.params) × (f.requires ≡ none)) ⊎ (¬ IsSomeAnd o (λ f. (0 ≡ f.params) × (f.requires ≡ none)))
asks-or-of None = inr (λ h. h)
asks-or-of (Some f) = both-or (nought-or f.params) (none-or f.requires)

-- `main` asks for nothing, or for something
pub asks-or : (p : PlainProgram) → AsksForNothing p ⊎ (¬ AsksForNothing p)
asks-or p = asks-or-of (slice_get p.functions p.main)

pub safe-no-stray : SafeProgramsHaveNone → SafeTextsHaveNoStray
safe-no-stray safe-none number count bytes o h safe bad = by (asks-or safe.program)
  where
    p : PlainProgram
    p = safe.program

    t : IsTextOf bytes p
    t = record { tree = safe.tree; spelled = safe.spelled; stands = safe.stands }

    by : AsksForNothing p ⊎ (¬ AsksForNothing p) → ⊥
    by (inl asks) =
        let q = drawn_output count (first_fault p count (seeded number)) in
        let e : o ≡ q = h.only q (inr (record { thing = p; is_so = t; said = inr (asks, refl) })) in
        let good : q.status ≡ Good = ap (λ x. (drawn_output count x).status) (safe-none p count (seeded number) asks safe.safe) in
        let f : Good ≡ Bad = sym good ∙ (sym (same_status o q e) ∙ bad) in
        cc
    by (inr n) =
        let e : o ≡ no_start_output = h.only no_start_output (inr (record { thing = p; is_so = t; said = inl (n, refl) })) in
        let f : Refused ≡ Bad = sym (same_status o no_start_output e) ∙ bad in
        cc

-- ---- it is seen by counts

view_items : (a : Assertion) → items_view a ≡ items_of (map item_view a.items.items)
view_items a = search (rules, the_lemmas)

none-counted : (xs : List Item) → IsTrue (length xs == 0) ↔ (items_of (map item_view xs) ≡ none)
none-counted [] = (λ t. refl, λ e. refl)
none-counted (x ∷ xs) = (λ t. absurd (let k : suc (length xs) ≡ 0 = grind (arith, nat_tests) in cc), λ e. absurd cc)

pub asks-counted :
    (p : PlainProgram) (f : Function) (b : Bool) → slice_get p.functions p.main ≡ Some (function_view f)
    → 0 ≡ f.params → b ≡ (length f.requires_.items.items == 0) → IsTrue b ↔ AsksForNothing p
asks-counted p f b e z h = (
  λ t. subst (λ o. IsSomeAnd o (λ g. (0 ≡ g.params) × (g.requires ≡ none))) (sym e)
      (z, seen ∙ (none-counted f.requires_.items.items).0 (sym h ∙ t)),
  λ a.
      let k : (0 ≡ f.params) × (items_view f.requires_ ≡ none) =
      subst (λ o. IsSomeAnd o (λ g. (0 ≡ g.params) × (g.requires ≡ none))) e a in
      h ∙ (none-counted f.requires_.items.items).1 (sym seen ∙ k.1),
)
  where
    seen : items_view f.requires_ ≡ items_of (map item_view f.requires_.items.items)
    seen = view_items f.requires_
