-- What `owners` says of a derivation's lines and of a schedule.
use Rattle.std.specs.Prelude.{◌≡◌, ◌⊎◌, ℕ, List, length, Option, Ok, Err}
use Rattle.std.specs.FinMap.{from_entries}
use Rattle.cap_prog.specs.Program.{PlainProgram}
use Rattle.cap_goal_spec.specs.Choices.{PlainChoice, PlainTree}
use Rattle.cap_rules.specs.Valid.{Valid}
use Rattle.cap_deriv.specs.Told.{told_by_bytes, opening_told, choices_told, all_told}
use Rattle.cap_kernel_check_steps.specs.declared.error.CheckError.{CheckError}
use Rattle.cap_kernel_check_steps.specs.Judges.{Judged}
use Rattle.cap_kernel_check_steps.specs.Owed.{preorder}
use Rattle.cap_machine.specs.Machine.{Heap, start}
use Rattle.cap_replay_schedules.specs.Reading.{Progress, read}
use Rattle.cap_replay.specs.RunText.{RunText}
use Rattle.cap_owners_spec.specs.Steps.{Proved}
use Rattle.cap_owners_spec.specs.Start.{first_track}
use Rattle.cap_owners_spec.specs.Owners.{shown, owned_from, begun}
use Rattle.cap_top_commands.specs.Output.{Output, judged_output, owners_output}
use Rattle.cap_top_commands.specs.Schedules.{TakesArguments, SaysBadSchedule}

-- the bytes are the lines of so many trees with these choices in preorder
abbrev pub TellsLines : List ℕ → ℕ → List PlainChoice → Type 0
TellsLines bytes n cs = told_by_bytes bytes ≡ opening_told n (choices_told cs all_told)

-- the bytes are a schedule for the program
pub record HasSchedule (p : PlainProgram) (bytes : List ℕ) : Type 0 where
  pub schedule : Progress
  pub reads : read bytes ≡ Ok schedule
  pub takes : TakesArguments p schedule

-- what the program's run along the schedule writes, with its accounts by a derivation of it; none
-- where the start is none. It is `owners_text` of what was read
unfoldable pub owned_along :
    PlainProgram → List (Option PlainTree) → Progress → Option RunText
owned_along p trees s =
    let d : Proved = record { program = p; trees = trees } in
    let heap : Heap = from_entries s.heap in
    let c = start p s.args heap in
    begun (shown d c (owned_from d 0 c s.entries)) (first_track d s.args heap)

-- the choices fail, as `check` says of them
pub record SaysFault (p : PlainProgram) (n : ℕ) (cs : List PlainChoice) (bytes : List ℕ)
    (o : Output) : Type 0 where
  pub error : CheckError
  pub judged : Judged p n cs (Err error)
  pub has : HasSchedule p bytes
  pub whole : o ≡ judged_output (Err error)

-- they are those of valid trees, by which the run along the schedule is said with its accounts
pub record SaysOwners (p : PlainProgram) (n : ℕ) (cs : List PlainChoice) (bytes : List ℕ)
    (o : Output) : Type 0 where
  pub trees : List (Option PlainTree)
  pub valid : Valid p trees
  pub many : length trees ≡ n
  pub choices : preorder trees ≡ cs
  pub has : HasSchedule p bytes
  pub whole : o ≡ owners_output (owned_along p trees has.schedule)

-- of so many trees with these choices, and of the bytes of a schedule
abbrev pub IsOwners : PlainProgram → ℕ → List PlainChoice → List ℕ → Output → Type 0
IsOwners p n cs bytes o =
    SaysBadSchedule p bytes o ⊎ (SaysFault p n cs bytes o ⊎ SaysOwners p n cs bytes o)
