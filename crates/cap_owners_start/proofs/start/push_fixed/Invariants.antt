use Rattle.std.proofs.Common.{◌≡◌, ◌++◌, map, drop}
use Rattle.cap_owners_spec.specs.Start.{unset}
use Rattle.cap_owners_start.proofs.start.push_fixed.Given as goal

abbrev pub invariant-loop-sort : goal.invariant-loop-sort
invariant-loop-sort l = l.names ++ map unset (drop l.sort-index l.fixed) ≡ l.fn.names ++ map unset l.fixed
