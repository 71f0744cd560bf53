use Rattle.std.proofs.Common.{◌≡◌, map, take}
use Rattle.cap_owners_fill.proofs.regions.Regions.copy.Given as goal

abbrev pub invariant-loop-region : goal.invariant-loop-region
invariant-loop-region l = map (λ x. x.value) l.regions.items ≡ map (λ x. x.value) (take l.region-index l.region-items)
