use Rattle.std.proofs.Common.{◌≡◌, ◌∙◌, ap, length, arith}
use Rattle.std.proofs.lemmas.List.{length-map}
use Rattle.cap_resolve_tables.proofs.Positions.{lent_place, lent_entry}
use Rattle.cap_resolve_tables.proofs.tables.FunctionTable.number.Goals as goal

pub returns : goal.returns
returns c = c.variable.ensures ∙ lent_place c.args.self.now.functions.items c.args.self.now.names c.args.name.now c.args.self.now.named

pub variable-requires : goal.variable-requires
variable-requires c =
    let e : length c.args.self.now.names ≡ length c.args.self.now.functions.items = ap length c.args.self.now.named ∙ length-map c.args.self.now.functions.items lent_entry in
    omega (arith, c.args.self.now.few)
