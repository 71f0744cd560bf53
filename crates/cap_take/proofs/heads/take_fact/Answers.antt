use Rattle.cap_prog.specs.Views.{item_view, program_view}
use Rattle.cap_take_items.specs.Views.{remaining_view}
use Rattle.cap_take.proofs.Others.{no-fact}
use Rattle.cap_take.proofs.heads.take_fact.Goals as goal

pub returns-in_default : goal.returns-in_default
returns-in_default c =
    let a = c.args in
    no-fact (program_view a.program.now) a.state.now a.taking (item_view a.item.now) a.region a.kind a.args.now a.slot.now (remaining_view a.rest.now) a.ledger.now c.in_default.not-Region c.in_default.not-Create
