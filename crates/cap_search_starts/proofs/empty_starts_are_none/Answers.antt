use Rattle.cap_search_starts.proofs.Starting.{empty-none}
use Rattle.cap_search_starts.proofs.empty_starts_are_none.Goals as goal

pub returns : goal.returns
returns c = empty-none
