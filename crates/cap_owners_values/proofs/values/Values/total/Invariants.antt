use Rattle.std.proofs.Common.{◌≡◌, drop}
use Rattle.cap_owners_values.specs.Sums.{total_from}
use Rattle.cap_owners_values.proofs.values.Values.total.Given as goal

abbrev pub invariant-loop-part : goal.invariant-loop-part
invariant-loop-part l = total_from l.sort l.self l.total (drop l.part-index l.parts) ≡ total_from l.sort l.self l.fn.sum l.parts
