use Rattle.cap_rules_steps.proofs.Walking.{weaker, inapplicable}
use Rattle.cap_open_moves.proofs.spans.prove_onwards.Goals as goal

pub returns-in-None : goal.returns-in-None
returns-in-None c x =
    let k = rw c.rows.ensures at c.prove_that.ensures in
    rw c.in-None.is k

pub returns-in-Some : goal.returns-in-Some
returns-in-Some c x = rw c.in-Some.is (weaker _ _ _ inapplicable)
