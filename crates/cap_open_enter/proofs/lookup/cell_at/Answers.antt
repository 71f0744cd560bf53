use Rattle.std.proofs.Common.{arith}
use Rattle.cap_open_enter.proofs.Members.{member-there, member-lacking}
use Rattle.cap_open_enter.proofs.lookup.cell_at.Goals as goal

pub returns-then-number-cells : goal.returns-then-number-cells
returns-then-number-cells c = member-lacking c.args.cells.now c.args.number (omega arith)

pub returns : goal.returns
returns c = member-there c.args.cells.now c.args.number c.index-cells-number.result (omega arith) c.index-cells-number.is
