use Rattle.cap_machine.proofs.ReadyLemmas.{top_heap}
use Rattle.cap_machine.proofs.machine.Machine.top_address.Goals as goal

pub returns : goal.returns
returns c p = top_heap p c.args.self.now _ c.top.ensures
