use Rattle.cap_goal_spec.specs.Choices.{certs_of}
use Rattle.cap_rules.specs.Answers.{marks_of}
use Rattle.cap_rules.specs.Rules.{rule}
use Rattle.cap_rules.proofs.Answering.{succeeds-answer}
use Rattle.cap_rules.proofs.successes_are_subgoals.Goals as goal

pub returns : goal.returns
returns c = λ p g c gs s. succeeds-answer (rule p g c (marks_of c)) (certs_of c) gs s
