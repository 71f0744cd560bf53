-- What the text of a run with its accounts tells of a program, and that there is an answer.
use Rattle.std.specs.Prelude.{◌≡◌, ◌⊎◌, ℕ, List, length, Option, Some, None, Result}
use Rattle.std.specs.FinMap.{from_entries}
use Rattle.cap_prog.specs.Program.{PlainFunction, PlainProgram}
use Rattle.cap_goal_spec.specs.Choices.{PlainChoice, PlainTree}
use Rattle.cap_rules.specs.Valid.{Valid}
use Rattle.cap_kernel_check_steps.specs.declared.error.CheckError.{CheckError}
use Rattle.cap_kernel_check_steps.specs.Judges.{Judged}
use Rattle.cap_kernel_check_steps.specs.Owed.{preorder}
use Rattle.cap_machine.specs.Machine.{Heap, Configuration, start}
use Rattle.cap_machine_accounts.specs.Assertions.{NameValue}
use Rattle.cap_machine_accounts.specs.Safety.{first_account, Start}
use Rattle.cap_replay.specs.declared.playing.End.TheVariants.{Wide}
use Rattle.cap_replay_schedules.specs.Reading.{Progress}
use Rattle.cap_replay.specs.RunText.{RunText, ends, in_front}
use Rattle.cap_owners_spec.specs.Track.{Track, account_of}
use Rattle.cap_owners_spec.specs.Texts.{account_text}
use Rattle.cap_owners_spec.specs.Owners.{start_line}
use Rattle.cap_owners_laws.specs.Owned.{IsTrackOf, proved, ShowsOwned}
use Rattle.cap_top_reading.specs.Refused.{IsTextOf}
use Rattle.cap_top_commands.specs.Answers.{AreAccepted}
use Rattle.cap_top_commands.specs.Good.{IsAccepted}
use Rattle.cap_top_commands.specs.Output.{Output}
use Rattle.cap_top_commands.specs.Owners.{TellsLines, HasSchedule, owned_along}
use Rattle.cap_top_commands.specs.Owners.{SaysOwners, IsOwners}
use Rattle.cap_top_commands.specs.Schedules.{TakesArguments}

-- ---- what the text shows

abbrev pub heap_of : Progress → Heap
heap_of s = from_entries s.heap

abbrev pub start_of : PlainProgram → Progress → Configuration
start_of p s = start p s.args (heap_of s)

-- The arguments and the heap are a start of `main` at some values of its names. The text begins
-- with the account of that start, in which `main` has the whole heap, and goes on along the
-- machine's run: no step is a fault, each has its line, and behind it comes the account after it,
-- which is valid and follows the one before by this step, and by which the contract is met where
-- the step is a call, a fork or a return. Each account has a track: each frame is at a node of the
-- derivation whose state holds of it. The run ends where the machine's does, or where a number is
-- too wide.
pub record ShowsFrom (p : PlainProgram) (trees : List (Option PlainTree)) (s : Progress)
    (r : RunText) : Type 0 where
  pub main : PlainFunction
  pub fixed : List NameValue
  pub starts : Start p main s.args (heap_of s) fixed
  pub track : Track
  pub first : account_of track ≡ first_account (heap_of s) fixed
  pub begins : IsTrackOf (proved p trees) (start_of p s) track
  pub run : RunText
  pub shown : ShowsOwned (proved p trees) 0 (start_of p s) track s.entries run
  pub whole :
      r
      ≡ in_front start_line
      (in_front (account_text p (start_of p s) (account_of track)) run)

-- or it ends before its first account, at a number that is too wide
abbrev pub ShowsOwners : PlainProgram → List (Option PlainTree) → Progress → RunText → Type 0
ShowsOwners p trees s r = ShowsFrom p trees s r ⊎ (r ≡ ends (Wide 0))

-- The first bytes are the text of a safe program, the second the lines of a valid derivation of all
-- its units, the third a schedule for it, and the text is that of the run along it with its
-- accounts.
pub record TellsOwners (bytes lines entries : List ℕ) (r : RunText) : Type 0 where
  pub accepted : IsAccepted bytes lines
  pub has : HasSchedule accepted.text.program entries
  pub whole : owned_along accepted.text.program accepted.trees has.schedule ≡ Some r
  pub shows : ShowsOwners accepted.text.program accepted.trees has.schedule r

-- so it is with what is said of a run
abbrev pub OwnersAreTold : Type 0
OwnersAreTold =
    (bytes lines entries : List ℕ) (p : PlainProgram) (n : ℕ) (cs : List PlainChoice) (o : Output)
    → IsTextOf bytes p → TellsLines lines n cs → (said : SaysOwners p n cs entries o)
    → (r : RunText) → owned_along p said.trees said.has.schedule ≡ Some r
    → TellsOwners bytes lines entries r

-- ---- starts that are none

abbrev pub IsNoStart : PlainProgram → Progress → Type 0
IsNoStart p s =
    (main : PlainFunction) (fixed : List NameValue) → ¬ Start p main s.args (heap_of s) fixed

abbrev pub RefusedStartsAreNone : Type 0
RefusedStartsAreNone =
    (p : PlainProgram) (trees : List (Option PlainTree)) (s : Progress)
    → TakesArguments p s → owned_along p trees s ≡ None → IsNoStart p s

-- ---- there is an answer

-- whatever is judged of choices
abbrev pub JudgedHaveOwners : Type 0
JudgedHaveOwners =
    (p : PlainProgram) (n : ℕ) (cs : List PlainChoice) (bytes : List ℕ)
    (answer : Result ℕ CheckError) →
    Judged p n cs answer → HasSchedule p bytes → (o : Output) × IsOwners p n cs bytes o

-- the lines are those of valid trees
pub record AreLinesOfValid (p : PlainProgram) (lines : List ℕ) : Type 0 where
  pub trees : List (Option PlainTree)
  pub told : TellsLines lines (length trees) (preorder trees)
  pub valid : Valid p trees

abbrev pub AcceptedHaveTrees : Type 0
AcceptedHaveTrees =
    (p : PlainProgram) (lines : List ℕ) → AreAccepted p lines → AreLinesOfValid p lines
