use Rattle.cap_machine_examples.proofs.Holding.{holding}
use Rattle.cap_machine_examples.proofs.each_condition_of_items_counts.Goals as goal

pub returns : goal.returns
returns c = holding
