use Rattle.cap_prog.specs.Views.{program_view}
use Rattle.cap_pure.proofs.Others.{no-if}
use Rattle.cap_pure.proofs.statements.at_branch.Goals as goal

pub returns-in_default : goal.returns-in_default
returns-in_default c = no-if (program_view c.args.program.now) c.args.state.now c.args.next.now c.in_default.not-If
