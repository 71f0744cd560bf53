use Rattle.std.proofs.Common.{◌∙◌}
use Rattle.cap_owners_fill.proofs.Passing.{is_empty_seen}
use Rattle.cap_owners_fill.proofs.given.is_empty.Goals as goal

pub returns : goal.returns
returns c = c.is_empty.ensures ∙ is_empty_seen c.args.items.now
