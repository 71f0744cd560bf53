-- What is said of the proofs of valid trees.
use Rattle.std.specs.Prelude.{◌≡◌, List, Option, Some, None}
use Rattle.std.specs.List.{AllByRecursion, AllZip}
use Rattle.cap_lin.specs.Solves.{Infeasible}
use Rattle.cap_lin.specs.declared.row.Row.{Row}
use Rattle.cap_farkas.specs.declared.cert.Cert.{Cert}
use Rattle.cap_fm_spec.specs.Events.{first_limit}
use Rattle.cap_prog.specs.Program.{PlainProgram}
use Rattle.cap_prog.specs.WellFormed.{IsWellFormed}
use Rattle.cap_goal_spec.specs.Choices.{PlainTree}
use Rattle.cap_goal_spec.specs.Roots.{PlainUnit}
use Rattle.cap_rules_marks.specs.Proven.{given}
use Rattle.cap_rules_ascending.specs.Ascending.{ProgramAscends}
use Rattle.cap_rules_nodes.specs.Nodes.{GoalNode, unit_nodes}
use Rattle.cap_kernel_nodes.specs.Laws.{UnitDerives}
use Rattle.cap_core.specs.Core.{IsIrreducible}
use Rattle.cap_core.specs.Deciding.{core_of}
use Rattle.cap_core_text.specs.Lines.{owed_by}

-- Rows that a certificate refutes are infeasible; and where no decision passes a limit, the rows of
-- their core are needed, each of them, and suffice.
pub record HasCore (rows : List Row) : Type 0 where
  pub infeasible : Infeasible rows
  pub core : first_limit (core_of rows).events ≡ None → IsIrreducible rows (core_of rows).value

-- a mark 0 refutes nothing
abbrev pub HasCoreIfGiven : List Row → Option Cert → Type 0
HasCoreIfGiven rows None = Unit {0}
HasCoreIfGiven rows (Some c) = HasCore rows

-- all proofs of the node
abbrev pub NodeHasCores : PlainProgram → GoalNode → Type 0
NodeHasCores p n = AllZip HasCoreIfGiven (owed_by p n) (given n.choice)

-- so it is with each node of valid trees of a unit, where the terms of the program are in order
abbrev pub ProofsHaveCores : Type 0
ProofsHaveCores =
    (p : PlainProgram) (u : PlainUnit) (ts : List (Option PlainTree)) →
    IsWellFormed p → ProgramAscends p → UnitDerives p u ts
    → AllByRecursion (NodeHasCores p) (unit_nodes p u ts)
