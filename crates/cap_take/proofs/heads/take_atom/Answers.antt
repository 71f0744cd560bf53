use Rattle.cap_prog.specs.Views.{item_view, program_view}
use Rattle.cap_take_items.specs.Views.{remaining_view}
use Rattle.cap_take.proofs.Others.{no-atom}
use Rattle.cap_take.proofs.heads.take_atom.Goals as goal

pub returns-in_default : goal.returns-in_default
returns-in_default c =
    let a = c.args in
    no-atom (program_view a.program.now) a.state.now a.taking (item_view a.item.now) a.region a.kind a.atom a.asked.now (remaining_view a.rest.now) a.ledger.now c.in_default.not-Guard c.in_default.not-Convert
