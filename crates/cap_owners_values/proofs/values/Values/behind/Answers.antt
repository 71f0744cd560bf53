use Rattle.std.proofs.Common.{◌∙◌, sym}
use Rattle.cap_owners_values.specs.Views.{value_view}
use Rattle.cap_owners_values.proofs.Parts.{behind_seen}
use Rattle.cap_owners_values.proofs.values.Values.behind.Goals as goal

pub returns : goal.returns
returns c = behind_seen value_view _ _ _ _ c.args.from _ _ c.deref.ensures.value c.self.view_is (c.len.ensures ∙ sym c.deref.ensures.len) c.min-start.ensures c.in_ok-values.ensures.items
