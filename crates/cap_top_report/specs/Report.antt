-- What is said of the units of a program: its region types and functions, in the order of the text.
use Rattle.std.specs.Prelude.{ℕ, ◌+◌, ◌==◌, ◌&&◌, Bool, true, false, not, List, [], ◌∷◌, ◌++◌, length, flat_map, codes}
use Rattle.std.specs.Fmt.{decimal}
use Rattle.cap_prog.specs.Program.{PlainProgram}
use Rattle.cap_goal_spec.specs.Roots.{PlainUnit, units}
use Rattle.cap_search_spec.specs.Starts.{empty_start}
use Rattle.cap_search_spec.specs.Verdicts.{PlainVerdict, is_proved, verdict}
use Rattle.cap_top_report.specs.Texts.{unit_title, titled_line}

abbrev pub unit_line : PlainProgram → ℕ → PlainUnit → List ℕ
unit_line p budget u = titled_line (unit_title p u) (verdict p u budget)

-- ---- how many are proved

abbrev pub once_proved : PlainVerdict → ℕ
once_proved (is_proved trees) = 1
once_proved _ = 0

abbrev pub count_proved : PlainProgram → ℕ → List PlainUnit → ℕ
count_proved p budget [] = 0
count_proved p budget (u ∷ us) = once_proved (verdict p u budget) + count_proved p budget us

abbrev pub proved_count : PlainProgram → ℕ → ℕ
proved_count p budget = count_proved p budget (units p)

-- ---- the report

abbrev pub start_line : Bool → List ℕ
start_line true = codes "main: precondition empty\n"
start_line false = []

abbrev pub count_line : ℕ → ℕ → List ℕ
count_line proved all =
    codes "proved " ++ (decimal proved ++ (codes " of " ++ (decimal all ++ codes "\n")))

-- a line for each unit, one where nothing meets the precondition of `main`, and one that counts
abbrev pub report_text : PlainProgram → ℕ → List ℕ
report_text p budget =
    flat_map (unit_line p budget) (units p)
    ++ (start_line (empty_start p) ++ count_line (proved_count p budget) (length (units p)))

-- each unit is proved
abbrev pub all_proved : PlainProgram → ℕ → Bool
all_proved p budget = proved_count p budget == length (units p)

-- each unit is proved, and the precondition of `main` is not found empty
abbrev pub is_good : PlainProgram → ℕ → Bool
is_good p budget = all_proved p budget && not (empty_start p)
