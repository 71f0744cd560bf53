use Rattle.std.proofs.Common.{◌≡◌, ◌+◌, length, false}
use Rattle.cap_galg_indices.specs.Sets.{AreBounds}
use Rattle.cap_galg_indices.proofs.Walks.{meets}
use Rattle.cap_owners_parts.proofs.bounds.meet.Given as goal

abbrev pub invariant-loop-left : goal.invariant-loop-left
invariant-loop-left l = record {
  left : AreBounds l.left;
  right : AreBounds l.right;
  meet : meets l.in_left l.in_right l.left l.right ≡ meets false false l.fn.left l.fn.right;
}

abbrev pub decreases-loop-left : goal.decreases-loop-left
decreases-loop-left l = length l.left + length l.right
