use Rattle.std.proofs.Common.{arith}
use Rattle.cap_goal_spec.specs.Environments.{reading}
use Rattle.cap_owners_fill.proofs.Meeting.{no_terms}
use Rattle.cap_owners_fill.proofs.slots.meet_terms.Goals as goal

pub returns-then-place-terms : goal.returns-then-place-terms
returns-then-place-terms c = no_terms c.args.values.now (reading c.args.env.now) c.args.slots.now c.args.terms.now c.loop-place.place c.loop-place.fill _ (omega arith) c.loop-place.invariant
