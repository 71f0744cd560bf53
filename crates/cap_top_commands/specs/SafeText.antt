-- Texts of safe programs.
use Rattle.std.specs.Prelude.{ℕ, List}
use Rattle.cap_parse_tree.specs.Tree.{ProgramTree}
use Rattle.cap_parse_laws.specs.Texts.{Spells}
use Rattle.cap_prog.specs.Program.{PlainProgram}
use Rattle.cap_resolve_spec.specs.Stands.{Stands}
use Rattle.cap_machine_accounts.specs.Safety.{Safe}

-- The bytes spell a tree that stands for a program, and every run of it, of every length and along
-- every schedule, from every state that meets the precondition of `main`, makes no memory fault,
-- fails no assertion, changes regions only by actions whose guards the stepping thread held, and
-- keeps the contracts of its functions.
pub record IsSafeText (bytes : List ℕ) : Type 0 where
  pub tree : ProgramTree
  pub spelled : Spells bytes tree
  pub program : PlainProgram
  pub stands : Stands tree program
  pub safe : Safe program
