use Rattle.cap_machine_examples.proofs.Validity.{account-conditions}
use Rattle.cap_machine_examples.proofs.each_condition_of_accounts_counts.Goals as goal

pub returns : goal.returns
returns c = account-conditions
