-- The goals that a choice leaves are its subgoals.
use Rattle.std.proofs.Common.{◌≡◌, List, [], ap}
use Rattle.std.specs.Prelude.{unwrap_or}
use Rattle.cap_prog.specs.Program.{PlainProgram}
use Rattle.cap_goal_spec.specs.States.{PlainGoal}
use Rattle.cap_goal_spec.specs.Choices.{PlainChoice, certs_of}
use Rattle.cap_rules.specs.Answers.{Subgoals, marks_of}
use Rattle.cap_rules.specs.Rules.{rule}
use Rattle.cap_rules.proofs.Answering.{answers-succeed}
use Rattle.cap_rules_nodes.specs.Nodes.{goals_left}

pub subgoals-left : (p : PlainProgram) (g : PlainGoal) (c : PlainChoice) (gs : List PlainGoal) → Subgoals p g c gs → goals_left p g c ≡ gs
unfolding goals_left
subgoals-left p g c gs s = ap (λ o. unwrap_or o []) (answers-succeed (rule p g c (marks_of c)) (certs_of c) gs s).value
