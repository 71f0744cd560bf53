use Rattle.std.proofs.Common.{◌≡◌, map, take}
use Rattle.std.specs.List.{AllByRecursion}
use Rattle.serde_json.specs.View.{view}
use Rattle.cap_deriv_write.specs.Bounds.{CertFits}
use Rattle.cap_deriv_write.specs.Forms.{cert_form}
use Rattle.cap_deriv_write.proofs.certs.certs.Given as goal

-- what stands in the list are the forms of what was passed, which is within its bounds
abbrev pub invariant-loop-one : goal.invariant-loop-one
invariant-loop-one l = record {
  value : map view l.items.items ≡ map cert_form (take l.one-index l.all);
  fits : AllByRecursion CertFits (take l.one-index l.all);
}
