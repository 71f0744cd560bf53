use Rattle.std.proofs.Common.{refl}
use Rattle.cap_stab_states.proofs.finding.add_form_bounds.Goals as goal

pub returns-in-Span : goal.returns-in-Span
returns-in-Span c = rw c.in-Span.is c.add_bounds.ensures

pub returns-in-One : goal.returns-in-One
returns-in-One c = rw c.in-One.is refl

pub returns-in-Share : goal.returns-in-Share
returns-in-Share c = rw c.in-Share.is refl

pub returns-in-Src : goal.returns-in-Src
returns-in-Src c = rw c.in-Src.is refl

pub returns-in-Tok : goal.returns-in-Tok
returns-in-Tok c = rw c.in-Tok.is refl
