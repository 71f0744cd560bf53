use Rattle.std.proofs.Common.{refl}
use Rattle.cap_pure_parts.proofs.Tasks.{pushed}
use Rattle.cap_pure.proofs.calls.take_task.Goals as goal

pub returns : goal.returns
returns c = rw (c.in_ok-push.ensures.items, pushed, c.new-tasks.ensures.items, c.in_ok-items.ensures) refl
