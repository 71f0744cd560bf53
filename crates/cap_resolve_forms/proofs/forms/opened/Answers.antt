use Rattle.std.proofs.Common.{refl}
use Rattle.cap_lin.proofs.Results.{first_wide-nil}
use Rattle.cap_resolve_forms.proofs.forms.opened.Goals as goal

pub returns-in-None : goal.returns-in-None
returns-in-None g c = rw c.in-None.is (first_wide-nil, refl)
