use Rattle.std.proofs.Common.{arith}
use Rattle.cap_open.proofs.Tasks.{passed}
use Rattle.cap_open.proofs.heads.behind.Goals as goal

pub returns-in-len1-up : goal.returns-in-len1-up
returns-in-len1-up c = passed c.args.tasks.now (omega arith)
