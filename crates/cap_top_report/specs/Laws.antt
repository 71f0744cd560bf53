-- What is said of programs all of which is proved.
use Rattle.std.specs.Prelude.{◌≡◌, ℕ, true, List, Option}
use Rattle.std.specs.List.{AllByRecursion}
use Rattle.cap_prog.specs.Program.{PlainProgram}
use Rattle.cap_prog.specs.WellFormed.{IsWellFormed}
use Rattle.cap_goal_spec.specs.Choices.{PlainTree}
use Rattle.cap_goal_spec.specs.Roots.{PlainUnit}
use Rattle.cap_goal_roots.specs.Units.{HasUnit}
use Rattle.cap_rules.specs.Valid.{Valid}
use Rattle.cap_rules_ascending.specs.Ascending.{ProgramAscends}
use Rattle.cap_search_spec.specs.Laws.{IsProved}
use Rattle.cap_rules_nodes.specs.Nodes.{unit_nodes}
use Rattle.cap_core_text.specs.cap_kernel_nodes.Laws.{UnitDerives}
use Rattle.cap_core_text.specs.Laws.{NodeHasCores}
use Rattle.cap_top_report.specs.Found.{found_trees}
use Rattle.cap_top_report.specs.Report.{all_proved}

-- where the terms of the program are in order and each unit is proved, the trees that are found are a valid
-- derivation
abbrev pub FoundAreValid : Type 0
FoundAreValid =
    (p : PlainProgram) (budget : ℕ) →
    ProgramAscends p → all_proved p budget ≡ true → Valid p (found_trees p budget)

-- the trees of a unit that is proved are valid derivations of it
abbrev pub ProvedDerive : Type 0
ProvedDerive =
    (p : PlainProgram) (budget : ℕ) (u : PlainUnit) (ts : List (Option PlainTree)) →
    ProgramAscends p → HasUnit p u → IsProved p budget u ts → UnitDerives p u ts

-- of each unit that is proved, the rows of each proof have a core: the line that tells its rows names
-- those that this proof can't do without, and that suffice
abbrev pub HasCores : PlainProgram → ℕ → Type 0
HasCores p budget =
    (u : PlainUnit) (ts : List (Option PlainTree)) → HasUnit p u → IsProved p budget u ts →
    AllByRecursion (NodeHasCores p) (unit_nodes p u ts)

abbrev pub ProvedHaveCores : Type 0
ProvedHaveCores =
    (p : PlainProgram) (budget : ℕ) → IsWellFormed p → ProgramAscends p → HasCores p budget
