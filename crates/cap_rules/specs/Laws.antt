-- What ties the rules' two readings together: what a choice makes of a goal, and where it fails
-- first.
use Rattle.std.specs.Prelude.{◌≡◌, List, Some, None}
use Rattle.std.specs.List.{AllZip}
use Rattle.cap_goal_spec.specs.cap_lin.Steps.{first_wide}
use Rattle.cap_goal_spec.specs.cap_farkas.declared.cert.Cert.{Cert}
use Rattle.cap_goal_spec.specs.cap_farkas.Refutes.{Refutes}
use Rattle.cap_goal_spec.specs.cap_prog.Program.{PlainProgram}
use Rattle.cap_goal_spec.specs.States.{PlainGoal}
use Rattle.cap_goal_spec.specs.Choices.{PlainChoice, certs_of}
use Rattle.cap_rules.specs.Attempts.{Attempt}
use Rattle.cap_rules.specs.Answers.{Answer, marks_of, steps_of, owed_lists, IsAnswer, Subgoals}
use Rattle.cap_rules.specs.Rules.{rule}

-- the attempt comes to the value, each result on the way is within 128 bits, and there is exactly
-- one certificate for each list that is owed, which refutes it
pub record Succeeds {A : Type 0} (o : Attempt A) (certs : List Cert) (x : A) : Type 0 where
  pub value : o.value ≡ Some x
  pub narrow : first_wide (steps_of o.events) ≡ None
  pub refuted : AllZip Refutes (owed_lists o.events) certs

-- one choice has one answer at a goal: its subgoals, or that it doesn't apply, or the operands of
-- one result
abbrev pub AnswersAreOne : Type 0
AnswersAreOne =
    (p : PlainProgram) (g : PlainGoal) (c : PlainChoice) (x y : Answer (List PlainGoal)) →
    IsAnswer p g c x → IsAnswer p g c y → x ≡ y

-- subgoals are what the rule makes of the goal, where nothing fails
abbrev pub SubgoalsSucceed : Type 0
SubgoalsSucceed =
    (p : PlainProgram) (g : PlainGoal) (c : PlainChoice) (gs : List PlainGoal) →
    Subgoals p g c gs → Succeeds (rule p g c (marks_of c)) (certs_of c) gs

-- and where nothing fails, what the rule makes of the goal are subgoals
abbrev pub SuccessesAreSubgoals : Type 0
SuccessesAreSubgoals =
    (p : PlainProgram) (g : PlainGoal) (c : PlainChoice) (gs : List PlainGoal) →
    Succeeds (rule p g c (marks_of c)) (certs_of c) gs → Subgoals p g c gs
