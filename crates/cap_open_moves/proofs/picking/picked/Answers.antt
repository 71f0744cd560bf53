use Rattle.std.proofs.Common.{ap, ◌∙◌}
use Rattle.cap_goal_spec.specs.States.{goals_of}
use Rattle.cap_rules_steps.proofs.Walking.{then_made, done_as}
use Rattle.cap_open_moves.proofs.picking.picked.Goals as goal

pub returns : goal.returns
returns c =
    let m = rw c.in_ok-next.ensures at c.in_ok-env.ensures.makes in
    let q = rw c.in_ok-next.ensures at c.in_ok-env.ensures.place in
    let e = rw q at c.in_ok-tasks.ensures in
    then_made _ _ _ _ m (done_as _ _ (c.in_ok-leaves.ensures ∙ ap (goals_of c.with_env.new.state) e))
