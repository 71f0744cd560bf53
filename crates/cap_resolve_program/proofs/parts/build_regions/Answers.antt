use Rattle.std.proofs.Common.{◌≡◌, [], flat_map, sym, subst, arith}
use Rattle.cap_resolve_spec.specs.Regions.{region_type_findings}
use Rattle.cap_resolve_tables.specs.Tables.{regions_of}
use Rattle.cap_resolve_program.proofs.Unrefused.{left, nothing_at}
use Rattle.cap_resolve_program.proofs.parts.build_regions.Goals as goal

pub build_region-requires : goal.build_region-requires
build_region-requires c =
    nothing_at (regions_of c.args.regions.now) 0 c.deref-region-items.result.now c.loop-region.region-index c.loop-region.number
    c.region-item.result c.loop-region-test.true c.region-item.is (omega (arith, c.loop-region.invariant.1))
    (subst (λ ts. flat_map (region_type_findings (regions_of c.args.regions.now)) (left 0 ts) ≡ [])
    (sym c.deref-region-items.ensures.value) c.requires)
