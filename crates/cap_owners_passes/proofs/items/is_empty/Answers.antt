use Rattle.std.proofs.Common.{◌∙◌}
use Rattle.cap_owners_passes.proofs.Firsts.{none-listed}
use Rattle.cap_owners_passes.proofs.items.is_empty.Goals as goal

pub returns : goal.returns
returns c = c.is_empty.ensures ∙ none-listed c.args.items.now
