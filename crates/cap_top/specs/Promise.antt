-- What a run of the whole program promises, beside what it promises where `verify` ends well
-- (`Verified`).
use Rattle.std.specs.Prelude.{◌≡◌, ◌↔◌, ℕ, ◌⊎◌, ◌≤◌, true, List, [], ◌∷◌, length}
use Rattle.std.specs.Prelude.{Option, Some, None, IfSome, IsSomeAnd}
use Rattle.cap_io.specs.Files.{Files, content, SeenShelf, HasGiven}
use Rattle.cap_io.specs.Outside.{SeenSink, longest, Rose, Gains}
use Rattle.cap_prog.specs.Program.{PlainProgram}
use Rattle.cap_parse_tree.specs.Tree.{ProgramTree}
use Rattle.cap_parse_laws.specs.Texts.{Spells}
use Rattle.cap_parse_tree.specs.Canonical.{canonical_text}
use Rattle.cap_top_reading.specs.Refused.{IsTextOf}
use Rattle.cap_top_commands.specs.declared.status.Status.{Status}
use Rattle.cap_top_commands.specs.declared.status.Status.TheVariants.{Good, Bad, Refused, NoMemory, NotEnabled, Wide}
use Rattle.cap_replay.specs.declared.playing.End.{End}
use Rattle.cap_replay.specs.cap_replay_schedules.Reading.{Progress}
use Rattle.cap_replay.specs.RunText.{RunText}
use Rattle.cap_top_commands.specs.cap_top_report.Report.{is_good}
use Rattle.cap_top_commands.specs.cap_top_report.Found.{found_trees}
use Rattle.cap_deriv_write.specs.Written.{derivation_text}
use Rattle.cap_top_commands.specs.Good.{IsGood, IsAccepted}
use Rattle.cap_top_commands.specs.Needed.{TellsCores}
use Rattle.cap_top_commands.specs.Derivations.{IsChecked}
use Rattle.cap_top_commands.specs.Outlines.{TellsOutline}
use Rattle.cap_top_commands.specs.Owners.{HasSchedule, owned_along}
use Rattle.cap_top_accounts.specs.Laws.{TellsOwners, AreLinesOfValid, IsNoStart}
use Rattle.cap_top_commands.specs.SafeText.{IsSafeText}
use Rattle.cap_gen_schedules.specs.Laws.{AsksForNothing}
use Rattle.cap_top_commands.specs.Startless.{SaysEmpty, IsStartlessText}
use Rattle.cap_top_commands.specs.Answers.{Fetched, IsOutput, AreAccepted, FaultsAlong}
use Rattle.cap_top_commands.specs.Schedules.{IsPlayedAs}
use Rattle.cap_top_words.specs.Meaning.{PlainCommand, verify, derive, check, show, replay, trial, outline, owners, stray, core}
use Rattle.cap_top_commands.specs.Commands.{files_of}
use Rattle.cap_top_commands.specs.Output.{Output, end_status, owners_output}
use Rattle.cap_top.specs.Verified.{IsRead}
use Rattle.cap_top_laws.specs.Given.{AreGiven, HasOutput}
use Rattle.cap_top.specs.Reads.{AreRead}
use Rattle.cap_top.specs.Run.{IsPut, IsNothing}

-- ---- what a good status promises

-- In this call these two files gave these bytes, one after the other, and no other file gave any; they
-- are those that the files hold where the shelf tells its files.
pub record AreBothRead (shelf shelf_now : SeenShelf) (name bytes second more : List ℕ)
    : Type 0 where
  pub given : HasGiven shelf shelf_now ((name, bytes) ∷ ((second, more) ∷ []))
  pub held : IfSome shelf.holds (λ files. content files name ≡ Some bytes)
  pub second_held : IfSome shelf.holds (λ files. content files second ≡ Some more)

-- The bytes that the file gave are the text of a safe program, all of which is proved within the
-- budget.
pub record ProvesFile (shelf shelf_now : SeenShelf) (budget : ℕ) (name : List ℕ) : Type 0 where
  pub bytes : List ℕ
  pub read : IsRead shelf shelf_now name bytes
  pub good : IsGood budget bytes

-- The bytes that the file gave are the text of a program, and the sink has gained the lines of a valid
-- derivation of all its units, no more than a file may have, which `check` accepts.
pub record DerivesFile (shelf shelf_now : SeenShelf) (budget : ℕ) (name : List ℕ)
    (sink sink_now : SeenSink) : Type 0 where
  pub bytes : List ℕ
  pub read : IsRead shelf shelf_now name bytes
  pub program : PlainProgram
  pub text_of_it : IsTextOf bytes program
  pub proved : is_good program budget ≡ true
  pub lines : List ℕ
  pub whole : lines ≡ derivation_text (found_trees program budget)
  pub short : length lines ≤ longest
  pub accepted : AreAccepted program lines
  pub gains : Gains sink.written sink_now.written lines

-- The bytes that the file gave are answered so with status 1, and the sink has gained the answer's text.
-- Where it says that the precondition of `main` is empty, they are the text of a program that has no
-- start.
pub record FailsFile (IsAnswer : List ℕ → Output → Type 0) (shelf shelf_now : SeenShelf)
    (name : List ℕ) (sink sink_now : SeenSink) : Type 0 where
  pub bytes : List ℕ
  pub read : IsRead shelf shelf_now name bytes
  pub output : Output
  pub answer : IsAnswer bytes output
  pub bad : output.status ≡ Bad
  pub gains : Gains sink.written sink_now.written output.text
  pub startless : SaysEmpty output → IsStartlessText bytes

-- The bytes that the first file gave are the text of a safe program, those of the second the lines of
-- a valid derivation of it.
pub record ChecksFiles (shelf shelf_now : SeenShelf) (file derivation : List ℕ) : Type 0 where
  pub bytes : List ℕ
  pub lines : List ℕ
  pub read : AreBothRead shelf shelf_now file bytes derivation lines
  pub accepted : IsAccepted bytes lines

-- The bytes that the first file gave are the text of a safe program, those of the second the lines of
-- a valid derivation of it, and the sink has gained its outline: the states that hold in each run.
pub record OutlinesFiles (shelf shelf_now : SeenShelf) (file derivation : List ℕ)
    (sink sink_now : SeenSink) : Type 0 where
  pub bytes : List ℕ
  pub lines : List ℕ
  pub read : AreBothRead shelf shelf_now file bytes derivation lines
  pub text : List ℕ
  pub outlined : TellsOutline bytes lines text
  pub gains : Gains sink.written sink_now.written text

-- the bytes spell a tree, of which this is the canonical text
pub record IsShownAs (bytes text : List ℕ) : Type 0 where
  pub tree : ProgramTree
  pub spelled : Spells bytes tree
  pub canonical : text ≡ canonical_text tree

-- The sink has gained the canonical text of the tree that the file's bytes spell.
pub record ShowsFile (shelf shelf_now : SeenShelf) (name : List ℕ) (sink sink_now : SeenSink)
    : Type 0 where
  pub bytes : List ℕ
  pub read : IsRead shelf shelf_now name bytes
  pub text : List ℕ
  pub shown : IsShownAs bytes text
  pub gains : Gains sink.written sink_now.written text

-- The statuses of a run that took some entries or all: it ended, it came to a fault, or to an entry
-- that is not enabled or too wide.
abbrev pub EndsRun : Status → Type 0
EndsRun Good = Unit {0}
EndsRun Bad = Unit {0}
EndsRun NotEnabled = Unit {0}
EndsRun Wide = Unit {0}
EndsRun _ = ⊥

-- The bytes that the first file gave are the text of a program, those of the second a schedule for
-- it, and the sink has gained what the program's run along it writes, which ends with this status.
pub record ReplaysFiles (shelf shelf_now : SeenShelf) (file schedule : List ℕ)
    (sink sink_now : SeenSink) (status : Status) : Type 0 where
  pub bytes : List ℕ
  pub entries : List ℕ
  pub read : AreBothRead shelf shelf_now file bytes schedule entries
  pub program : PlainProgram
  pub text_of_it : IsTextOf bytes program
  pub text : List ℕ
  pub end : End
  pub played : IsPlayedAs program entries text end
  pub ended : status ≡ end_status end
  pub gains : Gains sink.written sink_now.written text

-- In this call these three files gave these bytes, one after the other, and no other file gave any;
-- they are those that the files hold where the shelf tells its files.
pub record AreAllRead (shelf shelf_now : SeenShelf) (name bytes second more third rest : List ℕ)
    : Type 0 where
  pub given : HasGiven shelf shelf_now ((name, bytes) ∷ ((second, more) ∷ ((third, rest) ∷ [])))
  pub held : IfSome shelf.holds (λ files. content files name ≡ Some bytes)
  pub second_held : IfSome shelf.holds (λ files. content files second ≡ Some more)
  pub third_held : IfSome shelf.holds (λ files. content files third ≡ Some rest)

-- The bytes that the first file gave are the text of a safe program, those of the second the lines of
-- a valid derivation of it, those of the third a schedule for it, and the sink has gained what the
-- program's run along it writes with its accounts by that derivation, which ends with this status.
pub record OwnsFiles (shelf shelf_now : SeenShelf) (file derivation schedule : List ℕ)
    (sink sink_now : SeenSink) (status : Status) : Type 0 where
  pub bytes : List ℕ
  pub lines : List ℕ
  pub entries : List ℕ
  pub read : AreAllRead shelf shelf_now file bytes derivation lines schedule entries
  pub run : RunText
  pub owned : TellsOwners bytes lines entries run
  pub ended : status ≡ end_status run.end
  pub gains : Gains sink.written sink_now.written run.text

-- The bytes that the first file gave are the text of a program, those of the second lines that are
-- not accepted of it, those of the third a schedule for it, and the sink has gained what `check` says
-- of the lines, with status 1.
pub record RejectsFiles (shelf shelf_now : SeenShelf) (file derivation schedule : List ℕ)
    (sink sink_now : SeenSink) (status : Status) : Type 0 where
  pub bytes : List ℕ
  pub lines : List ℕ
  pub entries : List ℕ
  pub read : AreAllRead shelf shelf_now file bytes derivation lines schedule entries
  pub program : PlainProgram
  pub text_of_it : IsTextOf bytes program
  pub has : HasSchedule program entries
  pub output : Output
  pub checked : IsChecked program lines output
  pub bad : output.status ≡ Bad
  pub same : status ≡ Bad
  pub gains : Gains sink.written sink_now.written output.text

-- The bytes that the file gave are the text of a program that is not safe, and the sink has gained a
-- schedule along which its run comes to a fault at the last entry.
pub record StraysFile (shelf shelf_now : SeenShelf) (name : List ℕ) (sink sink_now : SeenSink)
    : Type 0 where
  pub bytes : List ℕ
  pub read : IsRead shelf shelf_now name bytes
  pub lines : List ℕ
  pub faults : FaultsAlong bytes lines
  pub not_safe : ¬ IsSafeText bytes
  pub gains : Gains sink.written sink_now.written lines

-- The bytes that the file gave are the text of a program, and the sink has gained its report with a
-- line for each proof of a unit that is proved.
pub record CoresFile (shelf shelf_now : SeenShelf) (name : List ℕ) (sink sink_now : SeenSink)
    (status : Status) : Type 0 where
  pub bytes : List ℕ
  pub read : IsRead shelf shelf_now name bytes
  pub output : Output
  pub told : TellsCores bytes output
  pub same : status ≡ output.status
  pub gains : Gains sink.written sink_now.written output.text

-- ---- whatever faults come

-- The ways to end: an output by what the files that were read gave, whole or, where the put failed,
-- the first of it; or no memory, with nothing. No other file gives anything, and none is read over a
-- shelf that counts its fetches.
abbrev pub Ends : Option PlainCommand → SeenShelf → SeenShelf → SeenSink → SeenSink → Status → Type 0
Ends command shelf shelf_now sink sink_now status =
    ((got : List Fetched) × AreRead shelf shelf_now (files_of command) got
    × ((o : Output) × IsOutput command got o × IsPut sink sink_now status o))
    ⊎ IsNothing sink sink_now status

-- ---- where no fault comes

-- no fault came, of reading or of writing
abbrev pub NoFault : SeenShelf → SeenShelf → SeenSink → SeenSink → Type 0
NoFault shelf shelf_now sink sink_now =
    ¬ Rose shelf.faults shelf_now.faults × ¬ Rose sink.faults sink_now.faults

-- the sink has gained this output's text, and the status is its
abbrev pub Says : SeenSink → SeenSink → Status → Output → Type 0
Says sink sink_now status o = (status ≡ o.status) × Gains sink.written sink_now.written o.text

-- an output over these files is said
abbrev pub SaysOutput : Option PlainCommand → Files → SeenSink → SeenSink → Status → Type 0
SaysOutput command files sink sink_now status =
    (has : HasOutput command files) × Says sink sink_now status has.said

-- Unless memory ran out, an output over these files is said, and each output over them is that one.
pub record AnswersFiles (command : Option PlainCommand) (files : Files) (sink sink_now : SeenSink)
    (status : Status) : Type 0 where
  pub some : SaysOutput command files sink sink_now status ⊎ (status ≡ NoMemory)
  pub each :
      (got : List Fetched) (o : Output) → AreGiven files (files_of command) got
      → IsOutput command got o → Says sink sink_now status o ⊎ (status ≡ NoMemory)

-- the file holds the text of a safe program, all of which is proved within the budget
pub record HoldsGood (budget : ℕ) (name : List ℕ) (files : Files) : Type 0 where
  pub bytes : List ℕ
  pub held : content files name ≡ Some bytes
  pub good : IsGood budget bytes

-- the first file holds the text of a program, the second lines that are accepted of it
pub record HoldAccepted (file derivation : List ℕ) (files : Files) : Type 0 where
  pub bytes : List ℕ
  pub held : content files file ≡ Some bytes
  pub program : PlainProgram
  pub text_of_it : IsTextOf bytes program
  pub lines : List ℕ
  pub lines_held : content files derivation ≡ Some lines
  pub short : length lines ≤ longest
  pub accepted : AreAccepted program lines

-- the first two so, and the third a schedule for the program
pub record HoldRun (file derivation schedule : List ℕ) (files : Files) : Type 0 where
  pub accepted : HoldAccepted file derivation files
  pub entries : List ℕ
  pub entries_held : content files schedule ≡ Some entries
  pub entries_short : length entries ≤ longest
  pub has : HasSchedule accepted.program entries

-- The status is that of the run along the schedule with its accounts, by the one valid derivation
-- that the lines are; and it is that of a refused start just where this has no text, as the start
-- that the schedule gives is none.
pub record EndsOwners (p : PlainProgram) (lines : List ℕ) (schedule : Progress) (status : Status)
    : Type 0 where
  pub valid : AreLinesOfValid p lines
  pub ended : status ≡ (owners_output (owned_along p valid.trees schedule)).status
  pub refused : (status ≡ Refused) ↔ (owned_along p valid.trees schedule ≡ None)
  pub no_start : status ≡ Refused → IsNoStart p schedule

-- the file holds the text of a tree, of which this is the canonical text
pub record HoldsTree (name text : List ℕ) (files : Files) : Type 0 where
  pub bytes : List ℕ
  pub held : content files name ≡ Some bytes
  pub shown : IsShownAs bytes text

-- the file holds the text of a safe program whose `main` asks for nothing
pub record HoldsSafe (name : List ℕ) (files : Files) : Type 0 where
  pub bytes : List ℕ
  pub held : content files name ≡ Some bytes
  pub text : IsSafeText bytes
  pub asks : AsksForNothing text.program

-- the bytes are a text that the command can take; a trial reads none
abbrev pub IsTextFor : PlainCommand → List ℕ → Type 0
IsTextFor (verify name budget) bytes = (p : PlainProgram) × IsTextOf bytes p
IsTextFor (derive name budget) bytes = (p : PlainProgram) × IsTextOf bytes p
IsTextFor (check name derivation) bytes = (p : PlainProgram) × IsTextOf bytes p
IsTextFor (show name) bytes = (t : ProgramTree) × Spells bytes t
IsTextFor (replay name schedule) bytes = (p : PlainProgram) × IsTextOf bytes p
IsTextFor (trial n) bytes = Unit {0}
IsTextFor (outline name derivation) bytes = (p : PlainProgram) × IsTextOf bytes p
IsTextFor (owners name derivation schedule) bytes = (p : PlainProgram) × IsTextOf bytes p
IsTextFor (stray name number count) bytes = (p : PlainProgram) × IsTextOf bytes p
IsTextFor (core name) bytes = (p : PlainProgram) × IsTextOf bytes p

-- a first file that is no text for the command is refused, unless memory ran out
abbrev pub Refuses : Option PlainCommand → Files → Status → Type 0
Refuses command files status =
    (t : PlainCommand) (name : List ℕ) (names : List (List ℕ)) (bytes : List ℕ)
    → command ≡ Some t → files_of command ≡ name ∷ names → content files name ≡ Some bytes
    → (IsTextFor t bytes → ⊥) → (status ≡ Refused) ⊎ (status ≡ NoMemory)

-- ---- causes

abbrev pub IsOneOf : List ℕ → List (List ℕ) → Type 0
IsOneOf name [] = ⊥
IsOneOf name (n ∷ ns) = (name ≡ n) ⊎ IsOneOf name ns

-- a fault came in the read of a file of the command, which is then blamed, or the told files lack it
abbrev pub ReadFails : Option PlainCommand → SeenShelf → SeenShelf → Type 0
ReadFails command shelf shelf_now =
    (name : List ℕ) × IsOneOf name (files_of command)
    × ((Rose shelf.faults shelf_now.faults × (shelf_now.blamed ≡ Some name))
    ⊎ IsSomeAnd shelf.holds (λ files. content files name ≡ None))
