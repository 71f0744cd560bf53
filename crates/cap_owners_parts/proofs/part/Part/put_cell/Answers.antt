use Rattle.std.proofs.Common.{◌∙◌, ap}
use Rattle.std.specs.FinMap.{insert}
use mir.Syntax.{w128}
use Rattle.std.proofs.lemmas.Int.{to_z-of_z}
use Rattle.cap_machine_accounts.specs.Parts.{Part}
use Rattle.cap_owners_parts.specs.Views.{entry_view}
use Rattle.std.specs.FinMap.{from_entries}
use Rattle.std.proofs.Common.{map}
use Rattle.cap_owners_parts.proofs.Maps.{tree_put}
use Rattle.cap_owners_parts.proofs.part.Part.put_cell.Goals as goal

pub returns : goal.returns
returns c =
    let u = rw (to_z-of_z w128 _ c.ranges.address, to_z-of_z w128 _ c.ranges.value) at c.in_ok-insert.ensures.updates in
    let e = tree_put c.self.inside.cells c.insert.new.self c.args.address c.args.value u in
    ap (λ h. record { cells = h; guards = from_entries (map entry_view c.self.inside.guards.entries) }) e
    ∙ ap (λ (q : Part). record q { cells = insert q.cells c.args.address c.args.value }) c.self.view_is
