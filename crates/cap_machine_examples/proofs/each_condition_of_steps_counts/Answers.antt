use Rattle.cap_machine_examples.proofs.Steps.{joins, new-shares, step-conditions, making-conditions}
use Rattle.cap_machine_examples.proofs.each_condition_of_steps_counts.Goals as goal

pub returns : goal.returns
returns c = record { join = joins; share = new-shares; step = step-conditions; making = making-conditions }
