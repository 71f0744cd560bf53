use Rattle.cap_rules_steps.proofs.Walking.{weaker, inapplicable}
use Rattle.cap_open_moves.proofs.spans.prove_within.Goals as goal

pub returns-in-At : goal.returns-in-At
returns-in-At c = rw c.in-At.is (c.index_within.ensures c.in-At.field-0)

pub returns-in-From : goal.returns-in-From
returns-in-From c = rw c.in-From.is (c.onwards_within.ensures c.in-From.field-0)

pub returns-in-One : goal.returns-in-One
returns-in-One c = rw c.in-One.is (weaker _ _ _ inapplicable)

pub returns-in-Share : goal.returns-in-Share
returns-in-Share c = rw c.in-Share.is (weaker _ _ _ inapplicable)

pub returns-in-Src : goal.returns-in-Src
returns-in-Src c = rw c.in-Src.is (weaker _ _ _ inapplicable)

pub returns-in-Tok : goal.returns-in-Tok
returns-in-Tok c = rw c.in-Tok.is (weaker _ _ _ inapplicable)
