use Rattle.std.proofs.Common.{◌∙◌, ap}
use Rattle.cap_prog.specs.Views.{program_view, act_view}
use Rattle.cap_prog.proofs.Views.{view-Assert}
use Rattle.cap_machine.proofs.ReadyLemmas.{check_ready}
use Rattle.cap_machine.proofs.machine.Machine.take.Goals as goal

pub check-requires : goal.check-requires
check-requires c =
    check_ready (program_view c.args.program.now) c.args.self.now c.args.entry.now c.args.statement.now c.in-Assert.comparison c.requires.ready (ap act_view c.in-Assert.is ∙ view-Assert c.in-Assert.comparison)
