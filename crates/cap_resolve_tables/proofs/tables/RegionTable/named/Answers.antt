use Rattle.std.proofs.Common.{◌≡◌, ◌∙◌, ap, length, Some, None, arith}
use Rattle.std.proofs.lemmas.List.{length-map}
use Rattle.cap_resolve_tables.proofs.Positions.{got, got_none, type_at, type_entry}
use Rattle.cap_resolve_tables.proofs.tables.RegionTable.named.Goals as goal

pub returns-in-Some : goal.returns-in-Some
returns-in-Some c = type_at c.args.self.now.types.items c.args.self.now.names c.args.name.now c.variable-number.result (Some c.in-Some.region.now) c.args.self.now.named c.variable-number.ensures (got _ c.args.self.now.types.items c.variable-number.result c.in-Some.region.now c.in-Some.ensures.lookup.3.0 c.in-Some.ensures.lookup.1 c.as_slice.ensures.value)

pub returns-in-None : goal.returns-in-None
returns-in-None c = type_at c.args.self.now.types.items c.args.self.now.names c.args.name.now c.variable-number.result None c.args.self.now.named c.variable-number.ensures (got_none _ c.args.self.now.types.items c.variable-number.result c.in-None.ensures.lookup.3 c.as_slice.ensures.value)

pub variable-number-requires : goal.variable-number-requires
variable-number-requires c =
    let e : length c.args.self.now.names ≡ length c.args.self.now.types.items = ap length c.args.self.now.named ∙ length-map c.args.self.now.types.items type_entry in
    omega (arith, c.args.self.now.few)
