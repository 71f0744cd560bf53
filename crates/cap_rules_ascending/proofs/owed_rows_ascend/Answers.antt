use Rattle.cap_rules_ascending.proofs.Rules.{owed-ascend}
use Rattle.cap_rules_ascending.proofs.owed_rows_ascend.Goals as goal

pub returns : goal.returns
returns c = owed-ascend
