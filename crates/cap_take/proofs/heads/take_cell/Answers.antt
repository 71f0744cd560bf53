use Rattle.cap_take_items.specs.Views.{remaining_view}
use Rattle.cap_take.proofs.Others.{no-cell}
use Rattle.cap_take.proofs.heads.take_cell.Goals as goal

pub returns-in_default : goal.returns-in_default
returns-in_default c =
    let a = c.args in
    no-cell a.state.now a.taking a.address.now a.content.now (remaining_view a.rest.now) a.ledger.now c.in_default.not-Cell
