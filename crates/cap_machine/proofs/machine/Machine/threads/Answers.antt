use Rattle.std.proofs.Common.{◌∙◌}
use Rattle.cap_machine.proofs.ReadyLemmas.{counted}
use Rattle.cap_machine.proofs.machine.Machine.threads.Goals as goal

pub returns : goal.returns
returns c p l = c.unwrap_or.ensures ∙ counted p c.args.self.now c.try_from.result c.len.result c.try_from.ensures (let e = c.args.self.now.threads.ok in c.len.ensures ∙ e.0) l
