use Rattle.std.proofs.Common.{◌≡◌, ◌++◌, ◌+◌, length}
use Rattle.cap_galg_indices.specs.Sets.{AreBounds, disjoint_union}
use Rattle.cap_owners_parts.proofs.merge.union.Given as goal

abbrev pub invariant-loop-x : goal.invariant-loop-x
invariant-loop-x l = record {
  left : AreBounds l.left;
  right : AreBounds l.right;
  union : l.bounds.items ++ disjoint_union l.left l.right ≡ disjoint_union l.fn.left l.fn.right;
}

abbrev pub decreases-loop-x : goal.decreases-loop-x
decreases-loop-x l = length l.left + length l.right
