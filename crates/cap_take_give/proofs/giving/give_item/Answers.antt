use Rattle.cap_prog.specs.Views.{program_view}
use Rattle.cap_take_give.proofs.Slots.{choose-stays}
use Rattle.cap_take_give.proofs.giving.give_item.Goals as goal

pub returns-in-Choose : goal.returns-in-Choose
returns-in-Choose c =
    let a = c.args in
    let i = c.in-Choose in
    rw c.in-Choose.is (choose-stays (program_view a.program.now) a.state.now a.env i.field-0 i.field-1 i.field-2)
