use Rattle.std.proofs.Common.{◌≡◌, ◌++◌, drop}
use Rattle.cap_goal.specs.Views.{certs_in}
use Rattle.cap_goal.proofs.certs.push_certs.Given as goal

abbrev pub invariant-loop-cert : goal.invariant-loop-cert
invariant-loop-cert l = certs_in l.all.items ++ drop l.cert-index l.certs ≡ certs_in l.fn.all.items ++ l.certs
