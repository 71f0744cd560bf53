-- What is said of a program's file, and of a replay, and nothing else.
use Rattle.std.proofs.Common.{◌≡◌, ℕ, inl, inr, List, Result, Ok, Err, IfOk, refl, sym, ap, ◌∙◌, subst}
use Rattle.std.specs.FinMap.{from_entries}
use Rattle.std.specs.declared.alloc.AllocError.{AllocError}
use Rattle.cap_prog.specs.declared.program.Program.{Program}
use Rattle.cap_prog.specs.Program.{PlainProgram}
use Rattle.cap_prog.specs.Views.{program_view}
use Rattle.cap_machine.specs.Machine.{start}
use Rattle.cap_top_reading.specs.declared.refusal.Refusal.{Refusal}
use Rattle.cap_top_reading.specs.Reading.{FindsProgram}
use Rattle.cap_top_reading.specs.Refused.{IsRefused, IsTextOf}
use Rattle.cap_replay_schedules.specs.declared.entries.Schedule.{Schedule}
use Rattle.cap_replay.specs.declared.playing.End.{End}
use Rattle.cap_replay.specs.declared.playing.Played.{Played}
use Rattle.cap_replay_schedules.specs.declared.reading.ScheduleError.{ScheduleError}
use Rattle.cap_replay_schedules.specs.declared.reading.ScheduleError.TheVariants.{BadLine}
use Rattle.cap_replay_schedules.specs.Reading.{Progress, read, IsReadAs}
use Rattle.cap_replay.specs.RunText.{RunText, run_from, run_text, played_view}
use Rattle.cap_top_commands.specs.declared.output.Output as code
use Rattle.cap_top_commands.specs.Answers.{IsOnly, IsOnlyTextOf}
use Rattle.cap_top_commands.specs.Schedules.{IsPlayed, IsPlayedAs, IsBadSchedule, run_along}
use Rattle.cap_top_commands.specs.Output.{Output, refusal_output, schedule_output, run_output}
use Rattle.cap_top_commands.specs.Beginning.{IsOnlyRefusal}
use Rattle.cap_top_commands.specs.Views.{output_view, IsCause}
use Rattle.cap_top_commands.proofs.Answering.{AnswersRefusal, caused_only, caused_none}
use Rattle.cap_top_commands.proofs.Schedules.{same_progress, not_bad, one_schedule_error, got, CodeTakes, takes, others_bad}

-- ---- the program

pub begins_program : (bytes : List ℕ) (p : Program) → FindsProgram bytes (Ok p) → IsOnlyTextOf bytes (program_view p)
begins_program bytes p f = record {
  text_of_it = f.found;
  only = λ q h. f.only_found q h;
  unrefused = λ r h. f.only_caused r h;
}

begins_refused : (bytes : List ℕ) (e : Refusal) → IsCause e → FindsProgram bytes (Err e) → IsOnlyRefusal bytes (refusal_output e)
begins_refused bytes e c f =
    let said = caused_only program_view (IsTextOf bytes) (IsRefused bytes) e c f in
    record {
      output = record { said = said.said; only = said.only };
      none = λ p t. caused_none program_view (IsTextOf bytes) (IsRefused bytes) e c f p t;
    }

pub begins_said : (bytes : List ℕ) (e : Refusal) (r : Result code.Output AllocError)
    → FindsProgram bytes (Err e) → AnswersRefusal e r
    → IfOk r (λ o. IsOnlyRefusal bytes (output_view o))
begins_said bytes e (Ok o) f h = subst (IsOnlyRefusal bytes) (sym h.0) (begins_refused bytes e h.1 f)
begins_said bytes e (Err a) f h = tt

-- ---- the schedule

module _ (p : PlainProgram) (bytes : List ℕ) where
  bad_only : (e : ScheduleError) → IsBadSchedule p bytes e → IsOnly (IsPlayed p bytes) (schedule_output e)
  bad_only e h = record { said = inl (record { error = e; bad = h; whole = refl }); only = by }
    where
      by : (q : Output) → IsPlayed p bytes q → schedule_output e ≡ q
      by q (inl k) = ap schedule_output (one_schedule_error p bytes e k.error h k.bad) ∙ sym k.whole
      by q (inr k) = absurd (not_bad p bytes k.played.schedule k.played.reads k.played.takes e h)

  pub none_read : (e : ScheduleError) → read bytes ≡ Err e → IsOnly (IsPlayed p bytes) (schedule_output e)
  none_read e h = let k = bad_only e (inl h) in record { said = k.said; only = k.only }

module _ (p : PlainProgram) (bytes : List ℕ) (s : Schedule) (h : IsReadAs (Ok s) (read bytes)) where
  abbrev progress : Progress
  progress = (got p bytes s h).progress

  same_run : run_along p progress ≡ run_text p s
  same_run =
      let g = got p bytes s h in
      ap (λ xs. run_from p 0 (start p xs (from_entries progress.heap)) progress.entries) (sym g.args)
      ∙ (ap (λ xs. run_from p 0 (start p s.args.items (from_entries xs)) progress.entries) (sym g.heap)
      ∙ ap (λ xs. run_from p 0 (start p s.args.items (from_entries s.heap.items)) xs) (sym g.entries))

  pub plays : (t : Played) → CodeTakes p s → played_view t ≡ run_text p s
      → IsOnly (IsPlayed p bytes) (run_output t.text.items t.end)
  plays t code e = record {
    said = inr (record {
      text = t.text.items;
      end = t.end;
      played = record { schedule = progress; reads = (got p bytes s h).is; takes = takes p bytes s h code; runs = same_run ∙ sym e };
      whole = refl;
    });
    only = by;
  }
    where
      same : (text : List ℕ) (end : End) → IsPlayedAs p bytes text end → run_output t.text.items t.end ≡ run_output text end
      same text end k =
          ap (λ (r : RunText). run_output r.text r.end)
          (e ∙ (sym same_run
          ∙ (ap (run_along p) (same_progress (read bytes) progress k.schedule (got p bytes s h).is k.reads) ∙ k.runs)))

      by : (q : Output) → IsPlayed p bytes q → run_output t.text.items t.end ≡ q
      by q (inr k) = same k.text k.end k.played ∙ sym k.whole
      by q (inl k) = absurd (not_bad p bytes progress (got p bytes s h).is (takes p bytes s h code) k.error k.bad)

  pub others : (CodeTakes p s → ⊥) → IsOnly (IsPlayed p bytes) (schedule_output (BadLine 1))
  others n = let k = bad_only p bytes (BadLine 1) (others_bad p bytes s h n) in record { said = k.said; only = k.only }
