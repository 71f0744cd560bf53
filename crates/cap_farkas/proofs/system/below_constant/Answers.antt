use Rattle.std.proofs.lemmas.Int.{to_z-of_z}
use Rattle.cap_lin.proofs.Results.{first_wide-nil}
use Rattle.cap_farkas.proofs.Sides.{one_more}
use Rattle.cap_farkas.proofs.system.below_constant.Goals as goal

pub returns-in-Int : goal.returns-in-Int
returns-in-Int c = rw c.in-Int.is (one_more _ _ _ (to_z-of_z _ _ c.ranges.constant) c.checked_add.ensures)

pub returns-in-Perm : goal.returns-in-Perm
returns-in-Perm c = rw c.in-Perm.is (first_wide-nil, to_z-of_z _ _ c.ranges.constant)
