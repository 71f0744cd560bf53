use Rattle.cap_rules_steps.proofs.Walking.{inapplicable, weaker}
use Rattle.cap_take_guards.proofs.forms.share_of.Goals as goal

pub returns-in-One : goal.returns-in-One
returns-in-One c = rw c.in-One.is (weaker _ _ _ inapplicable)

pub returns-in-Src : goal.returns-in-Src
returns-in-Src c = rw c.in-Src.is (weaker _ _ _ inapplicable)

pub returns-in-Tok : goal.returns-in-Tok
returns-in-Tok c = rw c.in-Tok.is (weaker _ _ _ inapplicable)

pub returns-in-Span : goal.returns-in-Span
returns-in-Span c = rw c.in-Span.is (weaker _ _ _ inapplicable)
