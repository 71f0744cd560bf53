use Rattle.cap_machine_examples.proofs.Example.{broken-accounts}
use Rattle.cap_machine_examples.proofs.broken_accounts_are_refused.Goals as goal

pub returns : goal.returns
returns c = broken-accounts
