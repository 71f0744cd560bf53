use Rattle.std.proofs.Common.{ap, ◌∙◌}
use Rattle.cap_prog.specs.Program.{none}
use Rattle.cap_prog.specs.Views.{program_view}
use Rattle.cap_goal.specs.Views.{items_in, tasks_view}
use Rattle.cap_take_items.specs.Views.{items_ahead}
use Rattle.cap_take.proofs.Others.{no-items}
use Rattle.cap_take.proofs.heads.take_at.Goals as goal

pub returns-in-None : goal.returns-in-None
returns-in-None c =
    let a = c.args in
    let e = c.in_ok-next_item.ensures ∙ ap items_ahead c.in-None.is in
    no-items (program_view a.program.now) a.state.now a.taking (items_in a.items.now.lists.items none) a.env a.creations a.at (tasks_view a.behind.now) a.ledger.now e
