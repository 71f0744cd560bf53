use Rattle.std.proofs.Common.{◌≡◌, replicate, true}
use Rattle.cap_open_acts.proofs.marking.set_marks.Given as goal

abbrev pub invariant-loop-step : goal.invariant-loop-step
invariant-loop-step l = l.marks.items ≡ replicate l.step true
