-- What drawn schedules show of a program.
use Rattle.std.specs.Prelude.{◌≡◌, ℕ, List, [], length, slice_get, Some, None, IsSomeAnd}
use Rattle.std.specs.FinMap.{empty}
use Rattle.rand_pcg.specs.Lcg.{Lcg}
use Rattle.cap_prog.specs.Program.{none, PlainProgram}
use Rattle.cap_machine.specs.declared.event.Entry.{Entry}
use Rattle.cap_machine.specs.Machine.{start}
use Rattle.cap_machine_accounts.specs.Safety.{Safe}
use Rattle.cap_replay.specs.declared.playing.End.TheVariants.{Stopped}
use Rattle.cap_replay_schedules.specs.Reading.{read}
use Rattle.cap_replay.specs.RunText.{run_from}
use Rattle.cap_replay_schedules.specs.Writing.{PlainSchedule, schedule_text, IsReadWhole, IsWithinLimits}
use Rattle.cap_gen_schedules.specs.Drawn.{first_fault}

-- main has no parameters
abbrev pub TakesNothing : PlainProgram → Type 0
TakesNothing p = IsSomeAnd (slice_get p.functions p.main) (λ f. 0 ≡ f.params)

-- nor does its `requires` say anything
abbrev pub AsksForNothing : PlainProgram → Type 0
AsksForNothing p =
    IsSomeAnd (slice_get p.functions p.main) (λ f. (0 ≡ f.params) × (f.requires ≡ none))

-- the schedule of these entries, without arguments and cells
abbrev pub drawn_schedule : List Entry → PlainSchedule
drawn_schedule es = record { args = []; heap = []; entries = es }

-- the run along a schedule that is found stops at its last entry
abbrev pub FoundSchedulesFault : Type 0
FoundSchedulesFault =
    (p : PlainProgram) (count : ℕ) (g : Lcg) (es : List Entry) →
    first_fault p count g ≡ Some es →
    (run_from p 0 (start p [] empty) es).end ≡ Stopped (length es)

-- none is found of a safe program whose main asks for nothing
abbrev pub SafeProgramsHaveNone : Type 0
SafeProgramsHaveNone =
    (p : PlainProgram) (count : ℕ) (g : Lcg) → AsksForNothing p → Safe p →
    first_fault p count g ≡ None

-- a schedule that is found is within the limits of those that can be written and read
abbrev pub FoundSchedulesAreWithinLimits : Type 0
FoundSchedulesAreWithinLimits =
    (p : PlainProgram) (count : ℕ) (g : Lcg) (es : List Entry) →
    first_fault p count g ≡ Some es → IsWithinLimits (drawn_schedule es)

-- what is written of it is read as it
abbrev pub FoundSchedulesAreReadBack : Type 0
FoundSchedulesAreReadBack =
    (p : PlainProgram) (count : ℕ) (g : Lcg) (es : List Entry) → first_fault p count g ≡ Some es →
    IsReadWhole (drawn_schedule es) (read (schedule_text (drawn_schedule es)))
