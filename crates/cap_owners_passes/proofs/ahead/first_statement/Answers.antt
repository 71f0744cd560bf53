use Rattle.cap_prog.specs.Program.{done}
use Rattle.cap_owners_passes.proofs.Firsts.{acts}
use Rattle.cap_owners_passes.proofs.ahead.first_statement.Goals as goal

pub loop-list-init : goal.loop-list-init
loop-list-init c = acts c.deref-list-items.result.now done
