use Rattle.std.proofs.Common.{refl, ◌∙◌, sym}
use Rattle.cap_owners_values.specs.Views.{value_view}
use Rattle.cap_owners_values.proofs.Parts.{part_seen}
use Rattle.cap_owners_values.proofs.values.Values.part.Goals as goal

pub returns : goal.returns
returns c = part_seen value_view _ _ _ _ _ c.args.from _ _ c.args.count _ c.deref.ensures.value c.self.view_is (c.len.ensures ∙ sym c.deref.ensures.len) c.min-start.ensures refl c.min.ensures c.in_ok-values.ensures.items
