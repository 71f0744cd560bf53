use Rattle.cap_rules_fits.proofs.AtTasks.{subgoals-kept}
use Rattle.cap_rules_fits.proofs.subgoals_are_kept.Goals as goal

pub returns : goal.returns
returns c = subgoals-kept
