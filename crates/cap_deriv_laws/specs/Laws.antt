-- What is said of the multipliers of certificates.
use Rattle.std.specs.Prelude.{List, Option}
use Rattle.cap_lin.specs.declared.row.Row.{Row}
use Rattle.cap_farkas.specs.declared.cert.Cert.{Cert}
use Rattle.cap_farkas.specs.Refutes.{Refutes}
use Rattle.cap_prog.specs.Program.{PlainProgram}
use Rattle.cap_goal_spec.specs.Choices.{PlainTree}
use Rattle.cap_rules.specs.Valid.{Valid}
use Rattle.cap_deriv_write.specs.Bounds.{HasNoZero, HaveNoZeros}

abbrev pub RefutationsHaveNoZero : Type 0
RefutationsHaveNoZero = (rows : List Row) (c : Cert) → Refutes rows c → HasNoZero c

abbrev pub ValidHaveNoZeros : Type 0
ValidHaveNoZeros =
    (p : PlainProgram) (trees : List (Option PlainTree)) → Valid p trees → HaveNoZeros trees
