-- That the programs of texts are those of which runs are promised.
use Rattle.cap_prog.specs.Program.{PlainProgram}
use Rattle.cap_parse_tree.specs.Tree.{ProgramTree}
use Rattle.cap_resolve_spec.specs.Stands.{Stands}
use Rattle.cap_owners_laws.specs.Owned.{IsTextual}

abbrev pub ProgramsAreTextual : Type 0
ProgramsAreTextual = (t : ProgramTree) (p : PlainProgram) → Stands t p → IsTextual p
