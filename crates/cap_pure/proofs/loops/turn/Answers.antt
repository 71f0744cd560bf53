use Rattle.cap_pure.proofs.Others.{no-turn}
use Rattle.cap_pure.proofs.loops.turn.Goals as goal

pub returns-in_default : goal.returns-in_default
returns-in_default c = no-turn c.args.state.now c.args.next.now c.in_default.not-While
