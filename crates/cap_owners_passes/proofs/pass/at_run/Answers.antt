use Rattle.std.proofs.Common.{◌≡◌, Some, sym, ap, ◌∙◌}
use Rattle.cap_prog.specs.Program.{done}
use Rattle.cap_prog.specs.Views.{act_view}
use Rattle.cap_goal.specs.Views.{block_in, choice_view}
use Rattle.cap_owners_passes.specs.Views.{first_act, statement_seen}
use Rattle.cap_owners_passes.proofs.Folds.{act-seen}
use Rattle.cap_owners_passes.proofs.Running.{at-step}
use Rattle.cap_owners_passes.proofs.pass.at_run.Goals as goal

pub returns : goal.returns
returns c = λ enter p h ts n.
    let a = c.args in
    let s = c.in-Some.statement.now in
    let f : first_act (block_in a.point.now.lists.items done) ≡ Some (act_view s.act) = sym c.first_statement.ensures ∙ (ap statement_seen c.in-Some.is ∙ ap Some (act-seen s)) in
    let e = sym c.next_event.ensures.event ∙ c.in-Some-next_event.is in
    rw (at-step enter p a.state.now (choice_view a.choice.now) h (block_in a.point.now.lists.items done) ts a.walk.now (act_view s.act) c.in-Some-next_event.event n f e, ← c.next_event.ensures.rest) c.pass_statement.ensures
