use Rattle.cap_pure_parts.proofs.Tasks.{pushed}
use Rattle.cap_pure.proofs.calls.call_tasks.Goals as goal

pub returns : goal.returns
returns c = rw (c.in_ok-push.ensures.items, pushed, c.in_ok-after.ensures) at c.fork_tasks.ensures
