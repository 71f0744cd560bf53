use Rattle.std.proofs.Common.{refl}
use Rattle.cap_open.proofs.Tasks.{pushed}
use Rattle.cap_open.proofs.heads.with_run.Goals as goal

pub returns : goal.returns
returns c = rw (c.in_ok-push.ensures.items, pushed, c.in_ok-point.ensures, c.in_ok-tasks.ensures) refl
