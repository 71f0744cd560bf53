-- What is said of the nodes of valid trees.
use Rattle.std.specs.Prelude.{◌≡◌, List, Option, None}
use Rattle.std.specs.List.{AllByRecursion, AllZip}
use Rattle.cap_lin.specs.Steps.{first_wide}
use Rattle.cap_prog.specs.Program.{PlainProgram}
use Rattle.cap_prog.specs.WellFormed.{IsWellFormed}
use Rattle.cap_goal_spec.specs.Choices.{PlainTree}
use Rattle.cap_goal_spec.specs.Roots.{PlainUnit, roots, roots_steps}
use Rattle.cap_rules.specs.Valid.{RootDerives, Valid}
use Rattle.cap_rules_fits.specs.Kept.{IsKept}
use Rattle.cap_rules_marks.specs.Proven.{ProvesOwed}
use Rattle.cap_rules_nodes.specs.Nodes.{GoalNode, unit_nodes, program_nodes}

-- the trees are valid derivations of the unit, the terms of whose roots stay within 128 bits
pub record UnitDerives (p : PlainProgram) (u : PlainUnit) (ts : List (Option PlainTree))
    : Type 0 where
  pub narrow : first_wide (roots_steps p u) ≡ None
  pub trees : AllZip (RootDerives p) ts (roots p u)

-- the goal fits the program, and the choice proves what its rule owes
pub record NodeIsProven (p : PlainProgram) (n : GoalNode) : Type 0 where
  pub kept : IsKept p n.goal
  pub proven : ProvesOwed p n.goal n.choice

-- each node of such trees is so
abbrev pub NodesAreProven : Type 0
NodesAreProven =
    (p : PlainProgram) (u : PlainUnit) (ts : List (Option PlainTree)) →
    IsWellFormed p → UnitDerives p u ts → AllByRecursion (NodeIsProven p) (unit_nodes p u ts)

-- and each node of valid trees of a program
abbrev pub ProgramNodesAreProven : Type 0
ProgramNodesAreProven =
    (p : PlainProgram) (ts : List (Option PlainTree)) → IsWellFormed p → Valid p ts
    → AllByRecursion (NodeIsProven p) (program_nodes p ts)
