-- What `outline` says of a derivation's lines, and what it tells of a program.
use Rattle.std.specs.Prelude.{◌≡◌, ◌≢◌, ◌⊎◌, ℕ, List, length, Option}
use Rattle.cap_prog.specs.Program.{PlainProgram}
use Rattle.cap_goal_spec.specs.Choices.{PlainTree}
use Rattle.cap_rules.specs.Valid.{Valid}
use Rattle.cap_deriv.specs.Told.{told_by_bytes, opening_told, choices_told, all_told}
use Rattle.cap_kernel_check_steps.specs.Owed.{preorder}
use Rattle.cap_outline_spec.specs.Outline.{outline_text}
use Rattle.cap_outline_laws.specs.Laws.{OutlinesRuns}
use Rattle.cap_top_reading.specs.Refused.{IsTextOf}
use Rattle.cap_top_commands.specs.declared.status.Status.TheVariants.{Good}
use Rattle.cap_top_commands.specs.Derivations.{IsChecked}
use Rattle.cap_top_commands.specs.Good.{IsAccepted}
use Rattle.cap_top_commands.specs.Output.{Output, outline_output}

-- the bytes are the lines of valid trees, and their outline is said
pub record SaysOutline (p : PlainProgram) (bytes : List ℕ) (o : Output) : Type 0 where
  pub trees : List (Option PlainTree)
  pub told :
      told_by_bytes bytes
      ≡ opening_told (length trees) (choices_told (preorder trees) all_told)
  pub valid : Valid p trees
  pub whole : o ≡ outline_output (outline_text p trees)

-- they are not accepted, and what `check` says is said
pub record SaysUnaccepted (p : PlainProgram) (bytes : List ℕ) (o : Output) : Type 0 where
  pub checked : IsChecked p bytes o
  pub unaccepted : o.status ≢ Good

abbrev pub IsOutline : PlainProgram → List ℕ → Output → Type 0
IsOutline p bytes o = SaysOutline p bytes o ⊎ SaysUnaccepted p bytes o

-- something is said wherever `check` says something, and with the same status
abbrev pub CheckedAreOutlined : Type 0
CheckedAreOutlined =
    (p : PlainProgram) (bytes : List ℕ) (o : Output) →
    IsChecked p bytes o → (q : Output) × IsOutline p bytes q × (q.status ≡ o.status)

-- The first bytes are the text of a safe program, the second the lines of a valid derivation of all
-- its units, and the text is the outline of these trees: at each statement it has the states of
-- which, in each run from each start, one holds of a frame whenever it comes to the statement.
pub record TellsOutline (bytes lines text : List ℕ) : Type 0 where
  pub accepted : IsAccepted bytes lines
  pub whole : text ≡ outline_text accepted.text.program accepted.trees
  pub holds : OutlinesRuns accepted.text.program accepted.trees

-- so it is with what is said with a good status
abbrev pub OutlinesAreTold : Type 0
OutlinesAreTold =
    (bytes lines : List ℕ) (p : PlainProgram) (o : Output) →
    IsTextOf bytes p → IsOutline p lines o → o.status ≡ Good → TellsOutline bytes lines o.text
