use Rattle.cap_prog.specs.Views.{items_view}
use Rattle.cap_take_items.specs.Views.{remaining_view}
use Rattle.cap_take.proofs.Others.{no-conditional}
use Rattle.cap_take.proofs.heads.take_conditional.Goals as goal

pub returns-in_default : goal.returns-in_default
returns-in_default c =
    let a = c.args in
    no-conditional a.state.now a.taking a.comparison.now (items_view a.then_items.now) (items_view a.else_items.now) (remaining_view a.rest.now) c.in_default.not-Cases
