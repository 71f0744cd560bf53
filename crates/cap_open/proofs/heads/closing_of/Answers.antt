use Rattle.cap_open.proofs.Heading.{none_to_close}
use Rattle.cap_open.proofs.heads.closing_of.Goals as goal

pub returns-in-empty : goal.returns-in-empty
returns-in-empty c = none_to_close c.args.tasks.now c.in-empty.len_below
