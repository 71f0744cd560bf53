use Rattle.std.specs.Prelude.{slice_get}
use Rattle.cap_machine.specs.View.{configuration}
use Rattle.cap_owners.proofs.Seeing.{last-seen}
use Rattle.cap_owners.proofs.step.top_of.Goals as goal

pub returns : goal.returns
returns c = λ p. last-seen p c.frames.result.now (slice_get (configuration p c.args.machine.now).threads c.args.thread) c.last.result (c.frames.ensures p) c.last.ensures.value
