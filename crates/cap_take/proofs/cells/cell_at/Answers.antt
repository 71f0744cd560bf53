use Rattle.std.proofs.Common.{arith, ◌≤◌, ◌<◌, length}
use Rattle.cap_take_items.proofs.Members.{member-there, member-lacking}
use Rattle.cap_take.proofs.cells.cell_at.Goals as goal

pub returns-then-number-cells : goal.returns-then-number-cells
returns-then-number-cells c =
    let h : length c.args.state.now.cells ≤ c.args.number = rw (← c.cells.ensures) (omega arith) in
    member-lacking c.args.state.now.cells c.args.number h

pub returns : goal.returns
returns c =
    let h : c.args.number < length c.args.state.now.cells = rw (← c.cells.ensures) (omega arith) in
    member-there c.args.state.now.cells c.args.number c.index-cells-number.result h (rw (← c.cells-2.ensures) c.index-cells-number.is)
