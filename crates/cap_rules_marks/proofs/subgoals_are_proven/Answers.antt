use Rattle.cap_rules_marks.proofs.Proving.{subgoals-proven}
use Rattle.cap_rules_marks.proofs.subgoals_are_proven.Goals as goal

pub returns : goal.returns
returns c = subgoals-proven c.subgoals_succeed.ensures
