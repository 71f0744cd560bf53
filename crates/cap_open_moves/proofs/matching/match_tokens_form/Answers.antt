use Rattle.cap_rules_steps.proofs.Walking.{weaker, inapplicable}
use Rattle.cap_open_moves.proofs.matching.match_tokens_form.Goals as goal

pub returns-in-One : goal.returns-in-One
returns-in-One c = rw c.in-One.is (weaker _ _ _ inapplicable)

pub returns-in-Share : goal.returns-in-Share
returns-in-Share c = rw c.in-Share.is (weaker _ _ _ inapplicable)

pub returns-in-Span : goal.returns-in-Span
returns-in-Span c = rw c.in-Span.is (weaker _ _ _ inapplicable)
