use Rattle.cap_resolve_tables.proofs.Positions.{few_at}
use Rattle.cap_resolve_tables.proofs.regions.region_table.Goals as goal

pub region_type-requires : goal.region_type-requires
region_type-requires c = few_at c.args.regions.now c.loop-region.region-index c.region-item.result c.loop-region-test.true c.region-item.is c.requires.guards
