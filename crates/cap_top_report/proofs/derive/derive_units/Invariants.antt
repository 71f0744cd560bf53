use Rattle.std.proofs.Common.{◌≡◌, ◌++◌, ◌+◌, ◌≤◌, drop, map, flat_map}
use Rattle.std.specs.List.{AllByRecursion}
use Rattle.cap_prog.specs.Views.{program_view}
use Rattle.cap_goal.specs.Views.{unit_view}
use Rattle.cap_goal_roots.specs.Units.{HasUnit}
use Rattle.cap_search.specs.Views.{tree_seen}
use Rattle.cap_top_report.specs.Found.{found_of}
use Rattle.cap_top_report.specs.Report.{unit_line, count_proved}
use Rattle.cap_top_report.proofs.derive.derive_units.Given as goal

-- what was written, found and counted, and what is left, are the whole
abbrev pub invariant-loop-unit : goal.invariant-loop-unit
invariant-loop-unit l =
    AllByRecursion (HasUnit (program_view l.program)) (map unit_view (drop l.unit-index l.units))
    × (l.text.items ++ flat_map (unit_line (program_view l.program) l.budget) (map unit_view (drop l.unit-index l.units))
    ≡ l.fn.text.items ++ flat_map (unit_line (program_view l.program) l.budget) (map unit_view l.units))
    × (map tree_seen l.trees.items ++ flat_map (found_of (program_view l.program) l.budget) (map unit_view (drop l.unit-index l.units))
    ≡ map tree_seen l.fn.trees.items ++ flat_map (found_of (program_view l.program) l.budget) (map unit_view l.units))
    × (l.proved + count_proved (program_view l.program) l.budget (map unit_view (drop l.unit-index l.units))
    ≡ count_proved (program_view l.program) l.budget (map unit_view l.units))
    × (l.proved ≤ l.unit-index)
