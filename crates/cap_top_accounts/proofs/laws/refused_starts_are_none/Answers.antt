use Rattle.cap_top_accounts.proofs.Showing.{starts_refused}
use Rattle.cap_top_accounts.proofs.laws.refused_starts_are_none.Goals as goal

pub returns : goal.returns
returns c = starts_refused c.starts_are_exact.ensures
