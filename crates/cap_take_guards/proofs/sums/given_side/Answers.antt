use Rattle.std.proofs.Common.{refl, arith}
use Rattle.cap_rules_steps.proofs.Walking.{there, lacking}
use Rattle.cap_take_guards.specs.Sums.{sides_view}
use Rattle.cap_take_guards.proofs.Walks.{none-given}
use Rattle.cap_take_guards.proofs.sums.given_side.Goals as goal

pub returns-then-side-eq0 : goal.returns-then-side-eq0
returns-then-side-eq0 c = rw c.if-side-eq0.true (there _ _ refl)

pub returns-then-side-eq1 : goal.returns-then-side-eq1
returns-then-side-eq1 c = rw c.if-side-eq1.true (there _ _ refl)

pub returns : goal.returns
returns c = lacking _ (none-given (sides_view c.args.sides) c.args.side (λ e. omega arith) (λ e. omega arith))
