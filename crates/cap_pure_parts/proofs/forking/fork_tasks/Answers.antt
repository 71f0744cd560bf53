use Rattle.std.proofs.Common.{refl}
use Rattle.cap_pure_parts.proofs.Tasks.{pushed}
use Rattle.cap_pure_parts.proofs.forking.fork_tasks.Goals as goal

pub returns : goal.returns
returns c = rw (c.in_ok-push-2.ensures.items, pushed, c.in_ok-push.ensures.items, pushed, c.in_ok-before.ensures) refl
