use Rattle.std.proofs.Common.{refl}
use Rattle.cap_open_enter.proofs.Tasks.{pushed}
use Rattle.cap_open_enter.proofs.entering.with_give.Goals as goal

pub returns : goal.returns
returns c = rw (c.in_ok-push.ensures.items, pushed, c.in_ok-items.ensures, c.in_ok-tasks.ensures) refl
