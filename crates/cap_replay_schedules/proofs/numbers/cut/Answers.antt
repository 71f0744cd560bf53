use Rattle.cap_replay_schedules.proofs.PieceLemmas.{first_whole}
use Rattle.cap_replay_schedules.proofs.numbers.cut.Goals as goal

pub loop-i-init : goal.loop-i-init
loop-i-init c = first_whole c.args.separator c.args.bytes.now
