use Rattle.std.proofs.Common.{refl}
use Rattle.cap_resolve_spec.specs.Items.{type_of}
use Rattle.cap_resolve_tables.specs.Tables.{typed_names}
use Rattle.cap_resolve_tables.proofs.Positions.{with_outer}
use Rattle.cap_resolve_tables.proofs.tables.Types.type_of.Goals as goal

pub returns-in-Some-type_of : goal.returns-in-Some-type_of
returns-in-Some-type_of c =
    with_outer c.args.self.now.outer c.in-Some.outer (typed_names c.args.self.now.own.now) c.args.name.now _ (type_of (typed_names c.args.self.now.own.now) c.args.name.now) c.in-Some.is c.in-Some-type_of.ensures refl

pub returns-in-None-type_of : goal.returns-in-None-type_of
returns-in-None-type_of c =
    with_outer c.args.self.now.outer c.in-Some.outer (typed_names c.args.self.now.own.now) c.args.name.now _ _ c.in-Some.is c.in-None-type_of.ensures c.type_of-in-None-type_of.ensures
