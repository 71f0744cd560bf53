use Rattle.cap_rules_ascending.proofs.Roots.{roots-ascend}
use Rattle.cap_rules_ascending.proofs.roots_ascend.Goals as goal

pub returns : goal.returns
returns c = roots-ascend
