use Rattle.cap_open.proofs.Heading.{none_to_shift}
use Rattle.cap_open.proofs.heads.shifting_of.Goals as goal

pub returns-in-empty : goal.returns-in-empty
returns-in-empty c = none_to_shift c.args.tasks.now c.in-empty.len_below
