use Rattle.std.proofs.Common.{◌≡◌, ◌++◌, drop}
use Rattle.cap_goal_spec.specs.Choices.{given_marks}
use Rattle.cap_goal.specs.Views.{certs_in}
use Rattle.cap_goal.proofs.certs.push_marks.Given as goal

abbrev pub invariant-loop-mark : goal.invariant-loop-mark
invariant-loop-mark l = certs_in l.all.items ++ given_marks (drop l.mark-index l.marks) ≡ certs_in l.fn.all.items ++ given_marks l.marks
