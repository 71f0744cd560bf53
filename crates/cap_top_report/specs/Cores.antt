-- The report that says too which rows each proof needs.
use Rattle.std.specs.Prelude.{ℕ, List, [], ◌++◌, length, flat_map}
use Rattle.cap_prog.specs.Program.{PlainProgram}
use Rattle.cap_goal_spec.specs.Roots.{PlainUnit, units}
use Rattle.cap_search_spec.specs.Starts.{empty_start}
use Rattle.cap_search_spec.specs.Verdicts.{PlainVerdict, is_proved, verdict}
use Rattle.cap_core_text.specs.Lines.{core_lines}
use Rattle.cap_top_report.specs.Report.{unit_line, proved_count, start_line, count_line}

-- of a unit that is proved a line for each proof of its trees, and nothing of any other
abbrev pub verdict_cores : PlainProgram → PlainUnit → PlainVerdict → List ℕ
verdict_cores p u (is_proved trees) = core_lines p u trees
verdict_cores p u _ = []

abbrev pub cored_lines : PlainProgram → ℕ → PlainUnit → List ℕ
cored_lines p budget u = unit_line p budget u ++ verdict_cores p u (verdict p u budget)

-- the report, with the lines of each proved unit's proofs behind its own
abbrev pub cores_text : PlainProgram → ℕ → List ℕ
cores_text p budget =
    flat_map (cored_lines p budget) (units p)
    ++ (start_line (empty_start p) ++ count_line (proved_count p budget) (length (units p)))
