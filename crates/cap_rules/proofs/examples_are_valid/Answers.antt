use Rattle.cap_rules.proofs.Example.{valid-examples}
use Rattle.cap_rules.proofs.examples_are_valid.Goals as goal

pub returns : goal.returns
returns c = valid-examples
