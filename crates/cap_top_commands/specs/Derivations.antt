-- What is said of a program's derivation: the lines that are written for it, and how lines are judged.
use Rattle.std.specs.Prelude.{◌≡◌, ◌⊎◌, ℕ, ◌≤◌, ◌<◌, ◌^◌, true, false, List, length, Option, Result}
use Rattle.cap_io.specs.Outside.{longest}
use Rattle.cap_prog.specs.Program.{PlainProgram}
use Rattle.cap_goal_spec.specs.Choices.{PlainChoice, PlainTree}
use Rattle.cap_deriv.specs.Told.{told_by_bytes, opening_told, choices_told, all_told, bad_told, unended_told, too_many_told, most_nodes}
use Rattle.cap_deriv.specs.Whole.{end_of_opening}
use Rattle.cap_deriv.specs.declared.cursor.DerivError.{DerivError}
use Rattle.cap_deriv.specs.declared.cursor.DerivError.TheVariants.{BadLine, Unended, TooMany, OutOfMemory}
use Rattle.cap_deriv_write.specs.Preorder.{choices_of_roots}
use Rattle.cap_deriv_write.specs.Spelled.{DerivationLines}
use Rattle.cap_deriv_write.specs.Written.{derivation_text}
use Rattle.cap_kernel_check_steps.specs.declared.error.CheckError.{CheckError}
use Rattle.cap_kernel_check_steps.specs.Judges.{Judged}
use Rattle.cap_top_report.specs.Report.{is_good}
use Rattle.cap_top_report.specs.Found.{found_trees}
use Rattle.cap_top_commands.specs.Output.{Output, derivation_output, long_derivation_output, bad_derivation_output, judged_output}
use Rattle.cap_top_commands.specs.Report.{IsReport}

-- ---- the lines that are written

-- The trees have a text: the number of trees has 32 bits, and there are no more nodes than a derivation
-- may have and no more bytes than a file that is read.
pub record HaveText (trees : List (Option PlainTree)) : Type 0 where
  pub roots : length trees < 2 ^ 32
  pub nodes : length (choices_of_roots trees) ≤ most_nodes
  pub bytes : length (derivation_text trees) ≤ longest

-- not all of the program is proved, and its report is said
pub record SaysReport (budget : ℕ) (p : PlainProgram) (o : Output) : Type 0 where
  pub bad : is_good p budget ≡ false
  pub report : IsReport budget p o

-- all of it is proved, by trees that have no text
pub record SaysTooLong (budget : ℕ) (p : PlainProgram) (o : Output) : Type 0 where
  pub good : is_good p budget ≡ true
  pub long : HaveText (found_trees p budget) → ⊥
  pub whole : o ≡ long_derivation_output

-- all of it is proved, and the lines of its trees are said
pub record SaysLines (budget : ℕ) (p : PlainProgram) (o : Output) : Type 0 where
  pub good : is_good p budget ≡ true
  pub short : HaveText (found_trees p budget)
  pub lines : DerivationLines (found_trees p budget) (derivation_text (found_trees p budget))
  pub whole : o ≡ derivation_output (derivation_text (found_trees p budget))

abbrev pub IsDerivation : ℕ → PlainProgram → Output → Type 0
IsDerivation budget p o = SaysReport budget p o ⊎ (SaysTooLong budget p o ⊎ SaysLines budget p o)

-- ---- the lines that are judged

-- the bytes are no lines of a derivation
abbrev pub IsBadDerivation : List ℕ → DerivError → Type 0
IsBadDerivation bytes (BadLine n) = end_of_opening (told_by_bytes bytes) ≡ bad_told n
IsBadDerivation bytes Unended = end_of_opening (told_by_bytes bytes) ≡ unended_told
IsBadDerivation bytes TooMany = end_of_opening (told_by_bytes bytes) ≡ too_many_told
IsBadDerivation bytes OutOfMemory = ⊥

pub record SaysBadLines (bytes : List ℕ) (o : Output) : Type 0 where
  pub error : DerivError
  pub bad : IsBadDerivation bytes error
  pub whole : o ≡ bad_derivation_output error

-- the bytes are the lines of so many trees with these choices in preorder, which are judged so
pub record SaysJudged (p : PlainProgram) (bytes : List ℕ) (o : Output) : Type 0 where
  pub trees : ℕ
  pub choices : List PlainChoice
  pub told : told_by_bytes bytes ≡ opening_told trees (choices_told choices all_told)
  pub answer : Result ℕ CheckError
  pub judged : Judged p trees choices answer
  pub whole : o ≡ judged_output answer

abbrev pub IsChecked : PlainProgram → List ℕ → Output → Type 0
IsChecked p bytes o = SaysBadLines bytes o ⊎ SaysJudged p bytes o
