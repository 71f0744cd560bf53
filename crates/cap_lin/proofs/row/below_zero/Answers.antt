use Rattle.std.proofs.Common.{refl}
use Rattle.cap_lin.proofs.Results.{first_wide-nil}
use Rattle.cap_lin.proofs.row.below_zero.Goals as goal

pub returns-in-Perm : goal.returns-in-Perm
returns-in-Perm c = rw c.in-Perm.is (first_wide-nil, refl)
