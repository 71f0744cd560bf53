use Rattle.cap_search_spec.proofs.Judging.{walks-tell-verdicts}
use Rattle.cap_search_spec.proofs.walks_tell_verdicts.Goals as goal

pub returns : goal.returns
returns c = walks-tell-verdicts
