use Rattle.std.proofs.Common.{arith, ap, ◌++◌, ◌∷◌, [], add-one}
use Rattle.cap_lin.specs.Linear.{variable}
use Rattle.cap_rules.specs.cap_goal_spec.Terms.{variables_from}
use Rattle.cap_rules_steps.proofs.Naming.{variables-last}
use Rattle.cap_rules_steps.proofs.envs.variables.Goals as goal

pub loop-step-preserved : goal.loop-step-preserved
loop-step-preserved c = rw (c.in_ok-push.ensures.items, c.loop-step.invariant, c.in_ok-var.ensures, add-one, variables-last) (ap (λ x. variables_from c.args.first c.loop-step.step ++ variable x ∷ []) (omega arith))
