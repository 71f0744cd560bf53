use Rattle.cap_machine_examples.proofs.Example.{broken-steps, no-third, hands-nothing}
use Rattle.cap_machine_examples.proofs.broken_steps_are_refused.Goals as goal

pub returns : goal.returns
returns c = record { steps = broken-steps; third_region = no-third; nothing_handed_over = hands-nothing }
