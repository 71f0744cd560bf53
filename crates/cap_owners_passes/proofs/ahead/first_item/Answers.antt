use Rattle.cap_prog.specs.Program.{none}
use Rattle.cap_owners_passes.proofs.Firsts.{firsts}
use Rattle.cap_owners_passes.proofs.ahead.first_item.Goals as goal

pub loop-list-init : goal.loop-list-init
loop-list-init c = firsts c.deref-list-items.result.now none
