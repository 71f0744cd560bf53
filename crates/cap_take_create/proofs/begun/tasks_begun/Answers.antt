use Rattle.std.proofs.Common.{◌∷◌, ap, ◌∙◌}
use Rattle.cap_prog.specs.Views.{item_view}
use Rattle.cap_goal_spec.specs.States.{to_take, to_make}
use Rattle.cap_goal.specs.Views.{tasks_view}
use Rattle.cap_take_items.specs.Views.{remaining_view}
use Rattle.cap_rules.specs.Rules.{stays}
use Rattle.cap_take_create.proofs.Tasks.{two-pushed}
use Rattle.cap_take_create.proofs.begun.tasks_begun.Goals as goal

pub returns : goal.returns
returns c = λ s.
    let a = c.args in
    let n = a.rest.now.at in
    let behind = to_make a.kind a.case a.env a.created n ∷ stays s (item_view a.item.now) a.left (remaining_view a.rest.now) ∷ tasks_view a.rest.now.tasks.now in
    two-pushed c.in_ok-tasks.tasks.items c.push.new.self.items c.push-2.new.self.items _ _ _ c.in_ok-push.ensures.items c.in_ok-push-2.ensures.items (c.in_ok-tasks.ensures s) ∙ ap (λ is. to_take is a.env a.left n ∷ behind) c.in_ok-items.ensures
