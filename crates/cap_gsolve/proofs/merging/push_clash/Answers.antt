use Rattle.cap_gsolve.proofs.Steps.{nothing-made}
use Rattle.cap_gsolve.proofs.merging.push_clash.Goals as goal

pub returns-else-clash : goal.returns-else-clash
returns-else-clash c = rw c.if-clash.false (nothing-made c.args.rows.now.items)
