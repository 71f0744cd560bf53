use Rattle.cap_goal_spec.specs.Choices.{certs_of}
use Rattle.cap_rules.specs.Answers.{marks_of}
use Rattle.cap_rules.specs.Rules.{rule}
use Rattle.cap_rules.proofs.Answering.{answers-one}
use Rattle.cap_rules.proofs.answers_are_one.Goals as goal

pub returns : goal.returns
returns c = λ p g c x y a b. answers-one (rule p g c (marks_of c)) (certs_of c) x y a b
