use Rattle.cap_rules_steps.proofs.Walking.{done}
use Rattle.cap_take_holdings.proofs.facts.contradict.Goals as goal

pub returns-then-clash : goal.returns-then-clash
returns-then-clash c = rw c.if-clash.true (rw (c.constant-zero.ensures, c.constant-one.ensures) at c.with_comparison.ensures)

pub returns-else-clash : goal.returns-else-clash
returns-else-clash c = rw c.if-clash.false (done _)
