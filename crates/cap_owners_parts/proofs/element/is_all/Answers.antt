use Rattle.cap_owners_parts.proofs.Shares.{all_seen}
use Rattle.cap_owners_parts.proofs.element.is_all.Goals as goal

pub returns : goal.returns
returns c = all_seen c.args.amount
