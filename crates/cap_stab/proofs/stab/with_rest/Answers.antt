use Rattle.std.proofs.Common.{◌∷◌, reverse, ap}
use Rattle.cap_goal_spec.specs.States.{to_rest}
use Rattle.cap_stab.proofs.Headed.{pushed}
use Rattle.cap_stab.proofs.stab.with_rest.Goals as goal

pub returns : goal.returns
returns c =
    rw (c.in_ok-push.ensures.items, pushed) (ap (λ l. to_rest c.args.from c.args.at ∷ reverse l) c.in_ok-tasks.ensures)
