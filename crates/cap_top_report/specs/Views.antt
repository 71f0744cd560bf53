-- What contracts see of reports and conclusions.
use Rattle.std.specs.Prelude.{◌≡◌, ℕ, true, false, length}
use Rattle.cap_prog.specs.Program.{PlainProgram}
use Rattle.cap_goal_spec.specs.Roots.{units}
use Rattle.cap_goal.specs.Trees.{bundle_view}
use Rattle.cap_goal.specs.declared.choice.Bundle.{Bundle}
use Rattle.cap_top_report.specs.declared.counts.Counts.{Counts}
use Rattle.cap_top_report.specs.declared.derive.Conclusion.{Conclusion}
use Rattle.cap_top_report.specs.declared.derive.Conclusion.TheVariants.{Proved, Reported}
use Rattle.cap_top_report.specs.declared.report.Report.{Report}
use Rattle.cap_top_report.specs.Found.{found_trees}
use Rattle.cap_top_report.specs.Cores.{cores_text}
use Rattle.cap_top_report.specs.Report.{proved_count, report_text, is_good}

-- the report is that of the program, within a budget
pub record IsReportOf (p : PlainProgram) (budget : ℕ) (r : Report) : Type 0 where
  pub text : r.text.items ≡ report_text p budget
  pub good : r.good ≡ is_good p budget

-- the report says too which rows each proof needs
pub record IsCoresOf (p : PlainProgram) (budget : ℕ) (r : Report) : Type 0 where
  pub text : r.text.items ≡ cores_text p budget
  pub good : r.good ≡ is_good p budget

-- so many of the program's units are proved within a budget, of so many
pub record IsCountOf (p : PlainProgram) (budget : ℕ) (c : Counts) : Type 0 where
  pub proved : c.proved ≡ proved_count p budget
  pub all : c.all ≡ length (units p)

-- all of the program is proved, by these trees
pub record IsWhollyProvedBy (p : PlainProgram) (budget : ℕ) (b : Bundle) : Type 0 where
  pub good : is_good p budget ≡ true
  pub trees : bundle_view b ≡ found_trees p budget

-- not all of it is, as its report says
pub record IsLeftBy (p : PlainProgram) (budget : ℕ) (r : Report) : Type 0 where
  pub bad : is_good p budget ≡ false
  pub report : IsReportOf p budget r

abbrev pub IsConclusionOf : PlainProgram → ℕ → Conclusion → Type 0
IsConclusionOf p budget (Proved b) = IsWhollyProvedBy p budget b
IsConclusionOf p budget (Reported r) = IsLeftBy p budget r
