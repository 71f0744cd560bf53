-- What is said of a program's search, perhaps with the rows that its proofs need.
use Rattle.std.specs.Prelude.{◌≡◌, ℕ}
use Rattle.cap_prog.specs.Program.{PlainProgram}
use Rattle.cap_top_report.specs.Report.{report_text, is_good}
use Rattle.cap_top_report.specs.Cores.{cores_text}
use Rattle.cap_top_commands.specs.Output.{Output, report_output}

-- the report, within a budget
abbrev pub IsReport : ℕ → PlainProgram → Output → Type 0
IsReport budget p o = o ≡ report_output (is_good p budget) (report_text p budget)

-- the same, with a line for each proof of a unit that is proved
abbrev pub IsCoresReport : ℕ → PlainProgram → Output → Type 0
IsCoresReport budget p o = o ≡ report_output (is_good p budget) (cores_text p budget)
