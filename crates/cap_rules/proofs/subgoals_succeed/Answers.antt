use Rattle.cap_goal_spec.specs.Choices.{certs_of}
use Rattle.cap_rules.specs.Answers.{marks_of}
use Rattle.cap_rules.specs.Rules.{rule}
use Rattle.cap_rules.proofs.Answering.{answers-succeed}
use Rattle.cap_rules.proofs.subgoals_succeed.Goals as goal

pub returns : goal.returns
returns c = λ p g c gs a. answers-succeed (rule p g c (marks_of c)) (certs_of c) gs a
