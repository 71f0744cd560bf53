use Rattle.std.proofs.Common.{◌≡◌, take}
use Rattle.cap_goal.proofs.shared.copy_all.Given as goal

abbrev pub invariant-loop-member : goal.invariant-loop-member
invariant-loop-member g l = l.copies.items ≡ take l.member-index l.member-items
