-- Texts of programs that have no start, and what is said of them.
use Rattle.std.specs.Prelude.{◌≡◌, ℕ, ℤ, true, List, ◌++◌}
use Rattle.cap_parse_tree.specs.Tree.{ProgramTree}
use Rattle.cap_parse_laws.specs.Texts.{Spells}
use Rattle.cap_prog.specs.Program.{PlainFunction, PlainProgram}
use Rattle.cap_resolve_spec.specs.Stands.{Stands}
use Rattle.cap_machine.specs.Machine.{Heap}
use Rattle.cap_machine_accounts.specs.Assertions.{NameValue}
use Rattle.cap_machine_accounts.specs.Safety.{Start}
use Rattle.cap_top_report.specs.Report.{start_line, count_line}
use Rattle.cap_top_commands.specs.declared.status.Status.TheVariants.{Bad}
use Rattle.cap_top_commands.specs.Output.{Output}

-- the status is 1, and the last line but one of the text is `main: precondition empty`
pub record SaysEmpty (o : Output) : Type 0 where
  pub bad : o.status ≡ Bad
  pub before : List ℕ
  pub proved : ℕ
  pub all : ℕ
  pub whole : o.text ≡ before ++ (start_line true ++ count_line proved all)

-- The bytes spell a tree that stands for a program, and no arguments of `main`, heap and values of its
-- names meet its precondition.
pub record IsStartlessText (bytes : List ℕ) : Type 0 where
  pub tree : ProgramTree
  pub spelled : Spells bytes tree
  pub program : PlainProgram
  pub stands : Stands tree program
  pub none :
      (main : PlainFunction) (args : List ℤ) (heap : Heap) (fixed : List NameValue)
      → Start program main args heap fixed → ⊥
