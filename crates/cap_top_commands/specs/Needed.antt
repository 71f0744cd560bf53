-- What `core` says of a program's text.
use Rattle.std.specs.Prelude.{◌≡◌, ◌⊎◌, ℕ, List}
use Rattle.cap_prog.specs.Program.{PlainProgram}
use Rattle.cap_top_reading.specs.Refused.{IsTextOf}
use Rattle.cap_top_report.specs.Report.{is_good}
use Rattle.cap_top_report.specs.Cores.{cores_text}
use Rattle.cap_top_report.specs.Laws.{HasCores}
use Rattle.cap_top_words.specs.Meaning.{default_budget}
use Rattle.cap_top_commands.specs.declared.status.Status.{Status}
use Rattle.cap_top_commands.specs.declared.status.Status.TheVariants.{Good, Bad}
use Rattle.cap_top_commands.specs.Answers.{IsCored}
use Rattle.cap_top_commands.specs.Good.{IsGood}
use Rattle.cap_top_commands.specs.Output.{Output, report_status}

-- The bytes are the text of a program, of which this is the report with the lines of its proofs; and
-- where a line names rows, they are infeasible, and without any one of them they are not.
pub record TellsCores (bytes : List ℕ) (o : Output) : Type 0 where
  pub program : PlainProgram
  pub text_of_it : IsTextOf bytes program
  pub whole : o.text ≡ cores_text program default_budget
  pub status : o.status ≡ report_status (is_good program default_budget)
  pub good : o.status ≡ Good → IsGood default_budget bytes
  pub cores : HasCores program default_budget

-- so it is with what is said with status 0 or 1
abbrev pub CoresAreTold : Type 0
CoresAreTold =
    (bytes : List ℕ) (o : Output) →
    IsCored bytes o → (o.status ≡ Good) ⊎ (o.status ≡ Bad) → TellsCores bytes o
