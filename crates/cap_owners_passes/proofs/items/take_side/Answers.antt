use Rattle.std.proofs.Common.{refl, sym, ap, ◌∙◌}
use Rattle.cap_prog.specs.Views.{items_view}
use Rattle.cap_goal.specs.Views.{has_no_items, tasks_view}
use Rattle.cap_goal_spec.specs.States.{goals_of}
use Rattle.cap_rules.specs.Making.{is_empty}
use Rattle.cap_owners_spec.specs.Traced.{traced, holds_by}
use Rattle.cap_owners_spec.specs.Walks.{descends, with_top}
use Rattle.cap_owners_passes.specs.Views.{child_of}
use Rattle.cap_owners_passes.proofs.Firsts.{taken-side}
use Rattle.cap_owners_passes.proofs.items.take_side.Goals as goal

pub returns : goal.returns
returns c = λ p failing more e left n t w last names.
    let a = c.args in
    let side = items_view a.holding.now in
    let b = c.in_ok-holds.holds in
    let h = ap (λ v. holds_by v a.comparison.now) names ∙ c.in_ok-holds.ensures in
    let child = taken-side b a.is_last (has_no_items side) (is_empty (goals_of a.state.now (tasks_view a.behind.now))) a.state.now side more e left n (tasks_view a.behind.now) last refl refl in
    rw h (ap (λ i. traced (descends i (with_top w t))) (child ∙ sym (c.child_of.ensures ∙ ap (child_of b) c.leaves_nothing-missing.ensures)))
