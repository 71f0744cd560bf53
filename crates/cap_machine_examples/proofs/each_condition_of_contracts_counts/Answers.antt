use Rattle.cap_machine_examples.proofs.Promises.{contracts, start-conditions, frame-conditions}
use Rattle.cap_machine_examples.proofs.each_condition_of_contracts_counts.Goals as goal

pub returns : goal.returns
returns c = record { contract = contracts; start = start-conditions; frame = frame-conditions }
