-- The trees that a search of all units finds.
use Rattle.std.specs.Prelude.{ℕ, List, [], flat_map, Option}
use Rattle.cap_prog.specs.Program.{PlainProgram}
use Rattle.cap_goal_spec.specs.Choices.{PlainTree}
use Rattle.cap_goal_spec.specs.Roots.{PlainUnit, units}
use Rattle.cap_search_spec.specs.Verdicts.{PlainVerdict, is_proved, verdict}

-- of a unit that is proved the trees, one for each root, and nothing of any other
abbrev pub proof_trees : PlainVerdict → List (Option PlainTree)
proof_trees (is_proved trees) = trees
proof_trees _ = []

abbrev pub found_of : PlainProgram → ℕ → PlainUnit → List (Option PlainTree)
found_of p budget u = proof_trees (verdict p u budget)

-- one unit's after the other's, each searched within a budget of visits
abbrev pub found_trees : PlainProgram → ℕ → List (Option PlainTree)
found_trees p budget = flat_map (found_of p budget) (units p)
