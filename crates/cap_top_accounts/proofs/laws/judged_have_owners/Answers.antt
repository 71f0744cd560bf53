use Rattle.cap_top_accounts.proofs.Choices.{judged_have}
use Rattle.cap_top_accounts.proofs.laws.judged_have_owners.Goals as goal

pub returns : goal.returns
returns c = judged_have c.judged_are_valid.ensures
