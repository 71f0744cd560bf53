use Rattle.cap_rules_steps.proofs.Walking.{done, inapplicable}
use Rattle.cap_open_moves.proofs.matching.match_one.Goals as goal

pub returns-in-One : goal.returns-in-One
returns-in-One c = rw c.in-One.is (done _)

pub returns-in-Share : goal.returns-in-Share
returns-in-Share c = rw c.in-Share.is inapplicable

pub returns-in-Src : goal.returns-in-Src
returns-in-Src c = rw c.in-Src.is inapplicable

pub returns-in-Tok : goal.returns-in-Tok
returns-in-Tok c = rw c.in-Tok.is inapplicable

pub returns-in-Span : goal.returns-in-Span
returns-in-Span c = rw c.in-Span.is inapplicable
