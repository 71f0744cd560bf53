use Rattle.std.proofs.Common.{◌≡◌, drop}
use Rattle.cap_syntax.specs.Layout.{past_gap}
use Rattle.cap_syntax.proofs.Gaps.{behind_gap}
use Rattle.cap_syntax.proofs.scan.gap_length.Given as goal

abbrev pub invariant-loop-i : goal.invariant-loop-i
invariant-loop-i l = behind_gap l.in_comment (drop l.i l.rest) ≡ past_gap l.rest
