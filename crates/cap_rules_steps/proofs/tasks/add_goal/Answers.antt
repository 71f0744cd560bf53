use Rattle.std.proofs.Common.{arith, refl, ap, sym, ◌∙◌, map, length}
use Rattle.std.proofs.Common.{◌≡◌}
use Rattle.std.proofs.lemmas.Bool.Decides.{nat_tests}
use Rattle.cap_goal.specs.Views.{goal_view, tasks_view}
use Rattle.cap_rules_steps.proofs.Blocks.{goal-added}
use Rattle.cap_rules_steps.proofs.tasks.add_goal.Goals as goal

pub returns : goal.returns
returns c =
    let k : length c.remove_done.new.tasks.items ≡ 0 → ⊥ = λ z. grind (arith, nat_tests) in
    ap (map goal_view) c.in_ok-push.ensures.items ∙ goal-added c.args.state (tasks_view c.args.tasks.items) (tasks_view c.remove_done.new.tasks.items) c.remove_done.new.tasks.items c.args.goals.now.items _ refl (c.remove_done.ensures c.args.state (ap length (sym c.facts.ensures))) k refl
