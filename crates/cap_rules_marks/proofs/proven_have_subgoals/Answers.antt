use Rattle.cap_rules_marks.proofs.Proving.{proven-subgoals}
use Rattle.cap_rules_marks.proofs.proven_have_subgoals.Goals as goal

pub returns : goal.returns
returns c = proven-subgoals c.successes_are_subgoals.ensures
