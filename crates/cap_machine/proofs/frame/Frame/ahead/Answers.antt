use Rattle.cap_machine.proofs.FrameLemmas.{ahead_rest}
use Rattle.cap_machine.proofs.frame.Frame.ahead.Goals as goal

pub returns-clause-next : goal.returns-clause-next
returns-clause-next c =
    let k = rw c.deref.ensures.value at c.ahead.ensures.is in
    ahead_rest _ _ c.args.self.now.levels.items c.args.self.now.next _ c.body.ensures.body c.requires.settled k
