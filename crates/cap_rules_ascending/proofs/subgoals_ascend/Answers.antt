use Rattle.cap_rules_ascending.proofs.Rules.{subgoals-ascend}
use Rattle.cap_rules_ascending.proofs.subgoals_ascend.Goals as goal

pub returns : goal.returns
returns c = subgoals-ascend
