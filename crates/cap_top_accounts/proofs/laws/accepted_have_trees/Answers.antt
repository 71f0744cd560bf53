use Rattle.cap_top_accounts.proofs.Choices.{accepted_have}
use Rattle.cap_top_accounts.proofs.laws.accepted_have_trees.Goals as goal

pub returns : goal.returns
returns c = accepted_have c.judged_are_valid.ensures
