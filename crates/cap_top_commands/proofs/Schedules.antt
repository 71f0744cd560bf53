-- What is read of a schedule's bytes: in one way, and as the code's schedule has it.
use Rattle.std.proofs.Common.{◌≡◌, ℕ, inl, inr, List, length, slice_get, Result, Ok, Err, refl, sym, ap, ◌∙◌, subst}
use Rattle.std.specs.Prelude.{IsSomeAnd}
use Rattle.cap_prog.specs.Program.{PlainProgram}
use Rattle.cap_replay_schedules.specs.declared.entries.Schedule.{Schedule}
use Rattle.cap_replay_schedules.specs.declared.reading.ScheduleError.{ScheduleError}
use Rattle.cap_replay_schedules.specs.declared.reading.ScheduleError.TheVariants.{BadLine}
use Rattle.cap_replay_schedules.specs.Reading.{Progress, read, IsReadAs}
use Rattle.cap_top_commands.specs.Schedules.{TakesArguments, IsBadSchedule}

-- ---- the bytes

abbrev progress_or : Progress → Result Progress ScheduleError → Progress
progress_or p (Ok q) = q
progress_or p (Err e) = p

abbrev error_or : ScheduleError → Result Progress ScheduleError → ScheduleError
error_or e (Ok p) = e
error_or e (Err d) = d

pub same_progress : (r : Result Progress ScheduleError) (p q : Progress) → r ≡ Ok p → r ≡ Ok q → p ≡ q
same_progress r p q e f = ap (progress_or p) (sym e ∙ f)

not_both : {P : Type 0} (r : Result Progress ScheduleError) (p : Progress) (e : ScheduleError) → r ≡ Ok p → r ≡ Err e → P
not_both r p e f g = let h : Ok p ≡ Err e = sym f ∙ g in absurd cc

module _ (p : PlainProgram) (bytes : List ℕ) where
  -- a schedule for the program is not a bad one
  pub not_bad : (s : Progress) → read bytes ≡ Ok s → TakesArguments p s → (e : ScheduleError) → IsBadSchedule p bytes e → ⊥
  not_bad s r t e (inl h) = not_both (read bytes) s e r h
  not_bad s r t e (inr h) =
      h.0.others (subst (TakesArguments p) (same_progress (read bytes) s h.0.schedule r h.0.reads) t)

  -- and one that is bad is so in one way
  pub one_schedule_error : (d e : ScheduleError) → IsBadSchedule p bytes d → IsBadSchedule p bytes e → d ≡ e
  one_schedule_error d e (inl h) (inl k) = ap (error_or d) (sym h ∙ k)
  one_schedule_error d e (inl h) (inr k) = not_both (read bytes) k.0.schedule d k.0.reads h
  one_schedule_error d e (inr h) (inl k) = not_both (read bytes) h.0.schedule e h.0.reads k
  one_schedule_error d e (inr h) (inr k) = h.1 ∙ sym k.1

-- ---- the code's schedule

-- it has what was read
pub record ReadsTo (s : Schedule) (r : Result Progress ScheduleError) : Type 0 where
  pub progress : Progress
  pub is : r ≡ Ok progress
  pub args : s.args.items ≡ progress.args
  pub heap : s.heap.items ≡ progress.heap
  pub entries : s.entries.items ≡ progress.entries

pub reads_to : (s : Schedule) (r : Result Progress ScheduleError) → IsReadAs (Ok s) r → ReadsTo s r
reads_to s (Ok p) h = record { progress = p; is = refl; args = h.0; heap = h.1; entries = h.2 }
reads_to s (Err e) h = absurd h

-- its arguments are as many as `main` has parameters
abbrev pub CodeTakes : PlainProgram → Schedule → Type 0
CodeTakes p s = IsSomeAnd (slice_get p.functions p.main) (λ f. length s.args.items ≡ f.params)

module _ (p : PlainProgram) (bytes : List ℕ) (s : Schedule) (h : IsReadAs (Ok s) (read bytes)) where
  abbrev pub got : ReadsTo s (read bytes)
  got = reads_to s (read bytes) h

  pub takes : CodeTakes p s → TakesArguments p got.progress
  takes t = subst (λ xs. IsSomeAnd (slice_get p.functions p.main) (λ f. length xs ≡ f.params)) got.args t

  takes_back : TakesArguments p got.progress → CodeTakes p s
  takes_back t = subst (λ xs. IsSomeAnd (slice_get p.functions p.main) (λ f. length xs ≡ f.params)) (sym got.args) t

  pub others_bad : (CodeTakes p s → ⊥) → IsBadSchedule p bytes (BadLine 1)
  others_bad n = inr (record { schedule = got.progress; reads = got.is; others = λ t. n (takes_back t) }, refl)
