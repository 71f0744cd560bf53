use Rattle.std.proofs.Common.{◌≡◌, ◌∙◌, ap, sym, length, arith}
use Rattle.std.proofs.lemmas.List.{length-map}
use Rattle.cap_resolve_spec.specs.Names.{variable_of}
use Rattle.cap_resolve_spec.specs.Items.{region_guards}
use Rattle.cap_resolve_tables.specs.Entries.{guard_entry}
use Rattle.cap_resolve_tables.specs.Tables.{type_view}
use Rattle.cap_resolve_tables.proofs.Positions.{guard_place}
use Rattle.cap_resolve_tables.proofs.tables.RegionType.guard_number.Goals as goal

pub returns : goal.returns
returns c =
    c.variable.ensures
    ∙ (ap (λ es. variable_of es c.args.name.now) c.args.self.now.named
    ∙ sym (guard_place (region_guards (type_view c.args.self.now)) c.args.name.now))

pub variable-requires : goal.variable-requires
variable-requires c =
    let e : length c.args.self.now.names ≡ length (region_guards (type_view c.args.self.now)) = ap length c.args.self.now.named ∙ length-map (region_guards (type_view c.args.self.now)) guard_entry in
    omega (arith, c.args.self.now.few)
