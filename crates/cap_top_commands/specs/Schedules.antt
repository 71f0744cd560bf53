-- What is said of the bytes of a schedule.
use Rattle.std.specs.Prelude.{◌≡◌, ◌⊎◌, ℕ, List, length, slice_get, IsSomeAnd, Ok, Err}
use Rattle.std.specs.FinMap.{from_entries}
use Rattle.cap_prog.specs.Program.{PlainProgram}
use Rattle.cap_machine.specs.Machine.{start}
use Rattle.cap_replay.specs.declared.playing.End.{End}
use Rattle.cap_replay_schedules.specs.declared.reading.ScheduleError.{ScheduleError}
use Rattle.cap_replay_schedules.specs.declared.reading.ScheduleError.TheVariants.{BadLine}
use Rattle.cap_replay_schedules.specs.Reading.{Progress, read}
use Rattle.cap_replay.specs.RunText.{RunText, run_from}
use Rattle.cap_top_commands.specs.Output.{Output, schedule_output, run_output}

-- the schedule has as many arguments as `main` has parameters
abbrev pub TakesArguments : PlainProgram → Progress → Type 0
TakesArguments p s =
    IsSomeAnd (slice_get p.functions p.main) (λ f. length s.args ≡ f.params)

-- what the program's run along the schedule writes
abbrev pub run_along : PlainProgram → Progress → RunText
run_along p s = run_from p 0 (start p s.args (from_entries s.heap)) s.entries

-- the bytes are a schedule for the program, along which its run writes this and ends so
pub record IsPlayedAs (p : PlainProgram) (bytes text : List ℕ) (end : End) : Type 0 where
  pub schedule : Progress
  pub reads : read bytes ≡ Ok schedule
  pub takes : TakesArguments p schedule
  pub runs : run_along p schedule ≡ record { text = text; end = end }

-- the bytes are a schedule with another number of arguments
pub record HasOtherArguments (p : PlainProgram) (bytes : List ℕ) : Type 0 where
  pub schedule : Progress
  pub reads : read bytes ≡ Ok schedule
  pub others : TakesArguments p schedule → ⊥

-- the bytes are no schedule for the program; another number of arguments stands in the first line
abbrev pub IsBadSchedule : PlainProgram → List ℕ → ScheduleError → Type 0
IsBadSchedule p bytes e = (read bytes ≡ Err e) ⊎ (HasOtherArguments p bytes × (e ≡ BadLine 1))

pub record SaysBadSchedule (p : PlainProgram) (bytes : List ℕ) (o : Output) : Type 0 where
  pub error : ScheduleError
  pub bad : IsBadSchedule p bytes error
  pub whole : o ≡ schedule_output error

pub record SaysRun (p : PlainProgram) (bytes : List ℕ) (o : Output) : Type 0 where
  pub text : List ℕ
  pub end : End
  pub played : IsPlayedAs p bytes text end
  pub whole : o ≡ run_output text end

abbrev pub IsPlayed : PlainProgram → List ℕ → Output → Type 0
IsPlayed p bytes o = SaysBadSchedule p bytes o ⊎ SaysRun p bytes o
