use Rattle.cap_rules_steps.proofs.Walking.{weaker, inapplicable}
use Rattle.cap_open_moves.proofs.spans.onwards_within.Goals as goal

pub returns-in-Span : goal.returns-in-Span
returns-in-Span c x = rw c.in-Span.is (c.prove_onwards.ensures x)

pub returns-in-One : goal.returns-in-One
returns-in-One c x = rw c.in-One.is (weaker _ _ _ inapplicable)

pub returns-in-Share : goal.returns-in-Share
returns-in-Share c x = rw c.in-Share.is (weaker _ _ _ inapplicable)

pub returns-in-Src : goal.returns-in-Src
returns-in-Src c x = rw c.in-Src.is (weaker _ _ _ inapplicable)

pub returns-in-Tok : goal.returns-in-Tok
returns-in-Tok c x = rw c.in-Tok.is (weaker _ _ _ inapplicable)
