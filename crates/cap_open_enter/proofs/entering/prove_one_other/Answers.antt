use Rattle.std.proofs.Common.{ap}
use Rattle.cap_rules_steps.specs.cap_goal_spec.States.{PlainFact}
use Rattle.cap_open_enter.proofs.Regions.{other-skipped}
use Rattle.cap_open_enter.proofs.entering.prove_one_other.Goals as goal

pub returns-then-other-fact : goal.returns-then-other-fact
returns-then-other-fact c = other-skipped c.args.state.now c.args.fact.now c.args.other.now c.args.ledger.now c.other.inside.kind c.fact.inside.kind (ap (λ (f : PlainFact). f.kind) c.other.view_is) (ap (λ (f : PlainFact). f.kind) c.fact.view_is) c.if-other-fact.true
