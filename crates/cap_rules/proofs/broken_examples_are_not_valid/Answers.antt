use Rattle.cap_rules.proofs.Example.{broken-examples}
use Rattle.cap_rules.proofs.broken_examples_are_not_valid.Goals as goal

pub returns : goal.returns
returns c = broken-examples
