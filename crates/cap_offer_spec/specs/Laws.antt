-- What is said of offered choices.
use Rattle.std.specs.Prelude.{◌≡◌, List, Some, None}
use Rattle.std.specs.List.{AllByRecursion, AllZip}
use Rattle.cap_lin.specs.Steps.{first_wide}
use Rattle.cap_lin.specs.declared.row.Row.{Row}
use Rattle.cap_farkas.specs.declared.cert.Cert.{Cert}
use Rattle.cap_fm_spec.specs.Events.{first_limit}
use Rattle.cap_fm_spec.specs.Solving.{RowsAscend, solved}
use Rattle.cap_rules.specs.cap_prog.Program.{PlainProgram}
use Rattle.cap_rules.specs.cap_goal_spec.States.{PlainGoal}
use Rattle.cap_rules.specs.cap_goal_spec.Choices.{PlainChoice, certs_of}
use Rattle.cap_rules.specs.Answers.{marks_of, steps_of, owed_lists, Subgoals}
use Rattle.cap_rules.specs.Rules.{rule}
use Rattle.cap_offer_spec.specs.Members.{IsOneOf}
use Rattle.cap_offer_spec.specs.Offering.{offered}

-- the certificate is the one that elimination finds of the rows, within its limits
pub record IsDecided (rows : List Row) (c : Cert) : Type 0 where
  pub value : (solved rows).value ≡ Some c
  pub limits : first_limit (solved rows).events ≡ None

-- the rule comes to these goals with the choice, each result on the way is within 128 bits, and the
-- choice has the certificate that elimination finds of each list that is owed, in order
pub record IsProvedBy (p : PlainProgram) (g : PlainGoal) (c : PlainChoice) : Type 0 where
  pub goals : List PlainGoal
  pub value : (rule p g c (marks_of c)).value ≡ Some goals
  pub narrow : first_wide (steps_of (rule p g c (marks_of c)).events) ≡ None
  pub decided : AllZip IsDecided (owed_lists (rule p g c (marks_of c)).events) (certs_of c)

abbrev pub OfferedAreProved : Type 0
OfferedAreProved =
    (p : PlainProgram) (g : PlainGoal) (c : PlainChoice) →
    IsOneOf (offered p g).value c → IsProvedBy p g c

-- the parts of the terms in all lists that the choice owes ascend
abbrev pub OwedAscend : PlainProgram → PlainGoal → PlainChoice → Type 0
OwedAscend p g c = AllByRecursion RowsAscend (owed_lists (rule p g c (marks_of c)).events)

-- the terms of all rows being in order, an offered choice applies
abbrev pub OfferedApply : Type 0
OfferedApply =
    (p : PlainProgram) (g : PlainGoal) (c : PlainChoice) →
    IsOneOf (offered p g).value c → OwedAscend p g c →
    (gs : List PlainGoal) × Subgoals p g c gs
