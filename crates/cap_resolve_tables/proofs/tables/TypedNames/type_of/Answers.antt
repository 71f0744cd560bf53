use Rattle.std.proofs.Common.{Some, None}
use Rattle.cap_resolve_tables.proofs.Positions.{got, got_none, typed_at}
use Rattle.cap_resolve_tables.proofs.tables.TypedNames.type_of.Goals as goal

pub returns-in-Some : goal.returns-in-Some
returns-in-Some c = typed_at c.args.self.now.list.items c.args.self.now.names c.args.name.now c.number-number.result (Some c.in-Some.typed.now) c.args.self.now.named c.number-number.ensures (got _ c.args.self.now.list.items c.number-number.result c.in-Some.typed.now c.in-Some.ensures.lookup.3.0 c.in-Some.ensures.lookup.1 c.as_slice.ensures.value)

pub returns-in-None : goal.returns-in-None
returns-in-None c = typed_at c.args.self.now.list.items c.args.self.now.names c.args.name.now c.number-number.result None c.args.self.now.named c.number-number.ensures (got_none _ c.args.self.now.list.items c.number-number.result c.in-None.ensures.lookup.3 c.as_slice.ensures.value)
