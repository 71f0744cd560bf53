use Rattle.std.proofs.Common.{◌≡◌, take}
use Rattle.cap_goal.proofs.copy.copy_certs.Given as goal

abbrev pub invariant-loop-cert : goal.invariant-loop-cert
invariant-loop-cert l = l.copies.items ≡ take l.cert-index l.certs
