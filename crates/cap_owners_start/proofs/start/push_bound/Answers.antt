use Rattle.std.proofs.Common.{arith, ap, ◌∙◌, ◌∷◌, ◌++◌, [], Some, pos}
use Rattle.cap_goal_spec.specs.Environments.{zero_value}
use Rattle.cap_owners_start.proofs.Meets.{repeated_next}
use Rattle.cap_owners_start.proofs.start.push_bound.Goals as goal

pub loop-arg-preserved : goal.loop-arg-preserved
loop-arg-preserved c = repeated_next (Some zero_value) c.loop-arg.terms.items c.push.new.self.items c.args.args.now c.loop-arg._arg-index _ (pos 0) (omega arith) (c.in_ok-push.ensures.items ∙ ap (λ t. c.loop-arg.terms.items ++ Some t ∷ []) c.constant.ensures) c.loop-arg.invariant
