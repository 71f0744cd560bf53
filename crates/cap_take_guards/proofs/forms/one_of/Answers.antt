use Rattle.cap_rules_steps.proofs.Walking.{inapplicable}
use Rattle.cap_take_guards.proofs.forms.one_of.Goals as goal

pub returns-in-Share : goal.returns-in-Share
returns-in-Share c = rw c.in-Share.is (inapplicable)

pub returns-in-Src : goal.returns-in-Src
returns-in-Src c = rw c.in-Src.is (inapplicable)

pub returns-in-Tok : goal.returns-in-Tok
returns-in-Tok c = rw c.in-Tok.is (inapplicable)

pub returns-in-Span : goal.returns-in-Span
returns-in-Span c = rw c.in-Span.is (inapplicable)
