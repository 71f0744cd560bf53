-- What is answered to a command, by what its files gave.
use Rattle.std.specs.Prelude.{◌≡◌, ℕ, List, [], ◌∷◌, Option, Some, None}
use Rattle.std.specs.Prelude.{◌⊎◌, length, Ok}
use Rattle.cap_prog.specs.Program.{PlainProgram}
use Rattle.cap_gen.specs.Trial.{trial_text}
use Rattle.cap_goal_spec.specs.Choices.{PlainChoice}
use Rattle.cap_goal_spec.specs.Roots.{units}
use Rattle.cap_parse_tree.specs.Tree.{ProgramTree}
use Rattle.cap_parse_tree.specs.Canonical.{canonical_text}
use Rattle.cap_parse_laws.specs.Texts.{Spells}
use Rattle.cap_machine.specs.declared.event.Entry.{Entry}
use Rattle.cap_machine.specs.Machine.{start}
use Rattle.cap_replay.specs.declared.playing.End.TheVariants.{Stopped}
use Rattle.cap_replay_schedules.specs.Reading.{Progress, read}
use Rattle.cap_replay_schedules.specs.Writing.{schedule_text}
use Rattle.cap_gen_schedules.specs.Drawn.{seeded, first_fault}
use Rattle.cap_gen_schedules.specs.Laws.{AsksForNothing, drawn_schedule}
use Rattle.cap_top_reading.specs.declared.refusal.Refusal.{Refusal}
use Rattle.cap_top_reading.specs.Refused.{SpellNone, IsRefused, IsTextOf}
use Rattle.cap_top_report.specs.Report.{proved_count}
use Rattle.cap_top_commands.specs.declared.status.Status.TheVariants.{Good, Bad}
use Rattle.cap_top_commands.specs.Good.{IsGood, IsProvedText, IsAccepted}
use Rattle.cap_top_commands.specs.SafeText.{IsSafeText}
use Rattle.cap_top_commands.specs.Startless.{SaysEmpty, IsStartlessText}
use Rattle.cap_top_words.specs.Meaning.{PlainCommand, verify, derive, check, show, replay, trial, outline, owners, stray, core, default_budget}
use Rattle.cap_top_commands.specs.Report.{IsReport, IsCoresReport}
use Rattle.cap_top_commands.specs.Derivations.{IsDerivation, IsChecked, SaysBadLines}
use Rattle.cap_top_commands.specs.Outlines.{IsOutline}
use Rattle.cap_top_commands.specs.Owners.{TellsLines, IsOwners}
use Rattle.cap_top_commands.specs.Schedules.{TakesArguments, run_along, IsPlayed}
use Rattle.cap_top_commands.specs.Output.{Output, usage_output, unreadable_output, long_output, refusal_output, tree_output, judged_output, trial_output, no_start_output, stray_output, no_stray_output}

-- ---- by the bytes of a text

-- there is such a cause, and it is said
pub record SaysCause (IsCaused : Refusal → Type 0) (o : Output) : Type 0 where
  pub cause : Refusal
  pub caused : IsCaused cause
  pub whole : o ≡ refusal_output cause

-- there is such a thing, and this is said of it
pub record SaysOf {X : Type 0} (IsSo : X → Type 0) (IsSaid : X → Output → Type 0) (o : Output)
    : Type 0 where
  pub thing : X
  pub is_so : IsSo thing
  pub said : IsSaid thing o

-- the bytes are refused
abbrev pub SaysRefusal : List ℕ → Output → Type 0
SaysRefusal bytes o = SaysCause (IsRefused bytes) o

-- the bytes are a program's text, of which this is said, or they are refused
abbrev pub OfProgram : List ℕ → (PlainProgram → Output → Type 0) → Output → Type 0
OfProgram bytes IsSaid o = SaysRefusal bytes o ⊎ SaysOf (IsTextOf bytes) IsSaid o

abbrev pub IsVerified : ℕ → List ℕ → Output → Type 0
IsVerified budget bytes o = OfProgram bytes (IsReport budget) o

-- of the trial's program it is said how many units are proved, of how many
abbrev pub IsTried : ℕ → PlainProgram → Output → Type 0
IsTried n p o = o ≡ trial_output n (proved_count p default_budget) (length (units p))

-- the trial of this number
abbrev pub IsTrial : ℕ → Output → Type 0
IsTrial n o = OfProgram (trial_text n) (IsTried n) o

-- what `verify` says within the usual budget, with the rows that each proof needs
abbrev pub IsCored : List ℕ → Output → Type 0
IsCored bytes o = OfProgram bytes (IsCoresReport default_budget) o

-- of the entries of the first schedule that faults, if one of so many does
abbrev pub drawn_output : ℕ → Option (List Entry) → Output
drawn_output count None = no_stray_output count
drawn_output count (Some es) = stray_output (schedule_text (drawn_schedule es))

-- of a program whose `main` asks for nothing so many schedules are drawn from the number
abbrev pub IsStray : ℕ → ℕ → PlainProgram → Output → Type 0
IsStray number count p o =
    ((¬ AsksForNothing p) × (o ≡ no_start_output))
    ⊎ (AsksForNothing p × (o ≡ drawn_output count (first_fault p count (seeded number))))

abbrev pub IsStrayed : ℕ → ℕ → List ℕ → Output → Type 0
IsStrayed number count bytes o = OfProgram bytes (IsStray number count) o

abbrev pub IsDerived : ℕ → List ℕ → Output → Type 0
IsDerived budget bytes o = OfProgram bytes (IsDerivation budget) o

abbrev pub IsCanonical : ProgramTree → Output → Type 0
IsCanonical t o = o ≡ tree_output (canonical_text t)

-- the bytes spell a tree, of which this is the canonical text, or they spell none
abbrev pub IsShown : List ℕ → Output → Type 0
IsShown bytes o = SaysCause (SpellNone bytes) o ⊎ SaysOf (Spells bytes) IsCanonical o

-- ---- by what the files gave

-- what a file gave: its bytes, or nothing, or more bytes than a file may have
pub data Fetched : Type 0 where
  held : List ℕ → Fetched
  unread : Fetched
  long : Fetched

-- what is said once the file of this name gave this, where its bytes are answered so
abbrev pub After : List ℕ → Fetched → (List ℕ → Output → Type 0) → Output → Type 0
After name (held bytes) IsSaid o = IsSaid bytes o
After name unread IsSaid o = o ≡ unreadable_output name
After name long IsSaid o = o ≡ long_output

-- the file gave a program's text, of which this is said
pub record HoldsProgram (x : Fetched) (IsSaid : PlainProgram → Output → Type 0) (o : Output)
    : Type 0 where
  pub bytes : List ℕ
  pub gave : x ≡ held bytes
  pub program : PlainProgram
  pub text_of_it : IsTextOf bytes program
  pub said : IsSaid program o

-- one file is read, whose bytes are answered so
abbrev pub ByOne : List ℕ → (List ℕ → Output → Type 0) → List Fetched → Output → Type 0
ByOne name IsSaid (x ∷ []) o = After name x IsSaid o
ByOne name IsSaid _ o = ⊥

-- One file is read, whose bytes are refused; or a second one too, as the first gave a program's
-- text, by which the second is answered.
abbrev pub ByTwo : List ℕ → (PlainProgram → Fetched → Output → Type 0) → List Fetched → Output → Type 0
ByTwo name IsSaid (x ∷ []) o = After name x SaysRefusal o
ByTwo name IsSaid (x ∷ (y ∷ [])) o = HoldsProgram x (λ p. IsSaid p y) o
ByTwo name IsSaid _ o = ⊥

-- the file gave a derivation's lines, of which this is said
pub record HoldsLines (x : Fetched) (IsSaid : ℕ → List PlainChoice → Output → Type 0) (o : Output)
    : Type 0 where
  pub lines : List ℕ
  pub gave : x ≡ held lines
  pub trees : ℕ
  pub choices : List PlainChoice
  pub told : TellsLines lines trees choices
  pub said : IsSaid trees choices o

-- One file is read, whose bytes are refused; or a second one too, as the first gave a program's
-- text, and it gives no derivation's lines; or all three, as the second gave such lines, by which
-- the third is answered.
abbrev pub ByThree : List ℕ → List ℕ
    → (PlainProgram → ℕ → List PlainChoice → Fetched → Output → Type 0)
    → List Fetched → Output → Type 0
ByThree name second IsSaid (x ∷ []) o = After name x SaysRefusal o
ByThree name second IsSaid (x ∷ (y ∷ [])) o = HoldsProgram x (λ p. After second y SaysBadLines) o
ByThree name second IsSaid (x ∷ (y ∷ (z ∷ []))) o =
    HoldsProgram x (λ p. HoldsLines y (λ n cs. IsSaid p n cs z)) o
ByThree name second IsSaid _ o = ⊥

-- what is said once the schedule's file gave this
abbrev pub IsReplayed : List ℕ → PlainProgram → Fetched → Output → Type 0
IsReplayed name p x o = After name x (IsPlayed p) o

-- what is said once the derivation's file gave this
abbrev pub IsJudged : List ℕ → PlainProgram → Fetched → Output → Type 0
IsJudged name p x o = After name x (IsChecked p) o

-- what is said of its outline once the derivation's file gave this
abbrev pub IsOutlined : List ℕ → PlainProgram → Fetched → Output → Type 0
IsOutlined name p x o = After name x (IsOutline p) o

-- what is said of the owners along it once the schedule's file gave this
abbrev pub IsOwned :
    List ℕ → PlainProgram → ℕ → List PlainChoice → Fetched → Output → Type 0
IsOwned name p n cs x o = After name x (IsOwners p n cs) o

-- no file is read
abbrev pub ByNone : (Output → Type 0) → List Fetched → Output → Type 0
ByNone IsSaid [] o = IsSaid o
ByNone IsSaid (x ∷ xs) o = ⊥

abbrev pub IsUsage : Output → Type 0
IsUsage o = o ≡ usage_output

-- the output, where the files of the command that were read gave these, in the order of the words
abbrev pub IsOutput : Option PlainCommand → List Fetched → Output → Type 0
IsOutput None = ByNone IsUsage
IsOutput (Some (verify file budget)) = ByOne file (IsVerified budget)
IsOutput (Some (derive file budget)) = ByOne file (IsDerived budget)
IsOutput (Some (check file derivation)) = ByTwo file (IsJudged derivation)
IsOutput (Some (show file)) = ByOne file IsShown
IsOutput (Some (replay file schedule)) = ByTwo file (IsReplayed schedule)
IsOutput (Some (trial n)) = ByNone (IsTrial n)
IsOutput (Some (outline file derivation)) = ByTwo file (IsOutlined derivation)
IsOutput (Some (owners file derivation schedule)) = ByThree file derivation (IsOwned schedule)
IsOutput (Some (stray file number count)) = ByOne file (IsStrayed number count)
IsOutput (Some (core file)) = ByOne file IsCored

-- it is so of this output, and of no other
pub record IsOnly (IsSaid : Output → Type 0) (o : Output) : Type 0 where
  pub said : IsSaid o
  pub only : (p : Output) → IsSaid p → o ≡ p

-- as many files as both have gave the same
abbrev pub Agree : List Fetched → List Fetched → Type 0
Agree [] ys = Unit {0}
Agree (x ∷ xs) [] = Unit {0}
Agree (x ∷ xs) (y ∷ ys) = (x ≡ y) × Agree xs ys

-- The output by what these files gave. There is no other, whether more of the command's files are read
-- or fewer.
pub record IsOnlyOutput (IsSaid : List Fetched → Output → Type 0) (got : List Fetched) (o : Output)
    : Type 0 where
  pub said : IsSaid got o
  pub only : (other : List Fetched) (p : Output) → Agree got other → IsSaid other p → o ≡ p

-- the bytes are the text of this program, and of no other, and are not refused
pub record IsOnlyTextOf (bytes : List ℕ) (p : PlainProgram) : Type 0 where
  pub text_of_it : IsTextOf bytes p
  pub only : (q : PlainProgram) → IsTextOf bytes q → p ≡ q
  pub unrefused : (r : Refusal) → IsRefused bytes r → ⊥

-- ---- what a good answer means

-- what `check` says with a good status is said of a valid derivation of a safe program
abbrev pub AcceptedAreSafe : Type 0
AcceptedAreSafe =
    (bytes lines : List ℕ) (p : PlainProgram) (o : Output) →
    IsTextOf bytes p → IsChecked p lines o → o.status ≡ Good → IsAccepted bytes lines

-- `check` says of these lines, and of the program, that they are accepted, and nothing else
pub record AreAccepted (p : PlainProgram) (lines : List ℕ) : Type 0 where
  pub nodes : ℕ
  pub checked : IsOnly (IsChecked p lines) (judged_output (Ok nodes))

-- what `derive` says of a text's program with a good status is accepted by `check`, of that program
abbrev pub DerivedAreAccepted : Type 0
DerivedAreAccepted =
    (budget : ℕ) (bytes : List ℕ) (p : PlainProgram) (o : Output) →
    IsTextOf bytes p → IsDerivation budget p o → o.status ≡ Good → AreAccepted p o.text

-- what `verify` says with a good status is said of the text of a safe program
abbrev pub GoodAnswersAreSafe : Type 0
GoodAnswersAreSafe =
    (budget : ℕ) (bytes : List ℕ) (o : Output) →
    IsVerified budget bytes o → o.status ≡ Good → IsGood budget bytes

-- what a trial says with a good status is said of the text of a safe program
abbrev pub GoodTrialsAreSafe : Type 0
GoodTrialsAreSafe =
    (n : ℕ) (o : Output) → IsTrial n o → o.status ≡ Good → IsProvedText default_budget (trial_text n)

-- ---- what it means that the precondition of `main` is empty

-- where the answer says so, the bytes are the text of a program that has no start
abbrev pub EmptyAnswersHaveNoStart : (ℕ → List ℕ → Output → Type 0) → Type 0
EmptyAnswersHaveNoStart IsAnswered =
    (budget : ℕ) (bytes : List ℕ) (o : Output) →
    IsAnswered budget bytes o → SaysEmpty o → IsStartlessText bytes

-- ---- what a schedule means that was drawn

-- The bytes are the text of a program, and these lines a schedule, along which its run comes to a
-- fault at its last entry.
pub record FaultsAlong (bytes lines : List ℕ) : Type 0 where
  pub program : PlainProgram
  pub text_of_it : IsTextOf bytes program
  pub schedule : Progress
  pub reads : read lines ≡ Ok schedule
  pub takes : TakesArguments program schedule
  pub stops : (run_along program schedule).end ≡ Stopped (length schedule.entries)

-- what is said with status 1 is such a schedule
abbrev pub StraysFault : Type 0
StraysFault =
    (number count : ℕ) (bytes : List ℕ) (o : Output) →
    IsStrayed number count bytes o → o.status ≡ Bad → FaultsAlong bytes o.text

-- and none is said of the text of a safe program
abbrev pub SafeTextsHaveNoStray : Type 0
SafeTextsHaveNoStray =
    (number count : ℕ) (bytes : List ℕ) (o : Output) →
    IsOnly (IsStrayed number count bytes) o → IsSafeText bytes → o.status ≡ Bad → ⊥
