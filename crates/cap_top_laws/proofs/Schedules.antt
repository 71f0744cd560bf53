-- Something is said of each schedule.
use Rattle.std.proofs.Common.{◌≡◌, inl, inr, ℕ, List, length, slice_get, Option, Some, None, Result, Ok, Err, refl}
use Rattle.std.specs.Prelude.{IsSomeAnd}
use Rattle.std.proofs.lemmas.Bool.{cases_eq}
use Rattle.cap_prog.specs.Program.{PlainFunction, PlainProgram}
use Rattle.cap_replay.specs.cap_replay_schedules.declared.reading.ScheduleError.{ScheduleError}
use Rattle.cap_replay.specs.cap_replay_schedules.declared.reading.ScheduleError.TheVariants.{BadLine}
use Rattle.cap_replay.specs.cap_replay_schedules.Reading.{Progress, read}
use Rattle.cap_replay.specs.RunText.{RunText}
use Rattle.cap_top_commands.specs.Schedules.{TakesArguments, run_along, IsPlayed}
use Rattle.cap_top_commands.specs.Output.{Output, schedule_output, run_output}
use Rattle.cap_top_laws.specs.Laws.{SchedulesAreAnswered}
use Rattle.cap_top_laws.proofs.Certificates.{EitherWay}

takes-or-not : (o : Option PlainFunction) (n : ℕ) → EitherWay (IsSomeAnd o (λ f. n ≡ f.params))
takes-or-not None n = inr (λ h. h)
takes-or-not (Some f) n = cases_eq n f.params

module _ (p : PlainProgram) (bytes : List ℕ) where
  says-run : (s : Progress) → read bytes ≡ Ok s → TakesArguments p s → (r : RunText) → run_along p s ≡ r → (o : Output) × IsPlayed p bytes o
  says-run s e t r f = (
    run_output r.text r.end,
    inr (record {
      text = r.text;
      end = r.end;
      played = record { schedule = s; reads = e; takes = t; runs = f };
      whole = refl;
    }),
  )

  says-read : (s : Progress) → read bytes ≡ Ok s → EitherWay (TakesArguments p s) → (o : Output) × IsPlayed p bytes o
  says-read s e (inl t) = says-run s e t (run_along p s) refl
  says-read s e (inr n) = (
    schedule_output (BadLine 1),
    inl (record {
      error = BadLine 1;
      bad = inr (record { schedule = s; reads = e; others = n }, refl);
      whole = refl;
    }),
  )

  says-played : (r : Result Progress ScheduleError) → read bytes ≡ r → (o : Output) × IsPlayed p bytes o
  says-played (Ok s) e = says-read s e (takes-or-not (slice_get p.functions p.main) (length s.args))
  says-played (Err x) e = (schedule_output x, inl (record { error = x; bad = inl e; whole = refl }))

pub schedule-answered : SchedulesAreAnswered
schedule-answered p bytes = says-played p bytes (read bytes) refl
