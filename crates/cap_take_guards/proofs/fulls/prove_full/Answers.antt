use Rattle.cap_rules_steps.proofs.Walking.{done, inapplicable, weaker}
use Rattle.cap_take_guards.proofs.fulls.prove_full.Goals as goal

pub returns-in-One : goal.returns-in-One
returns-in-One c = rw c.in-One.is (weaker _ _ _ (done _))

pub returns-in-Share : goal.returns-in-Share
returns-in-Share c =
    let h = rw c.constant-one.ensures at c.prove_that.ensures in
    rw c.in-Share.is h

pub returns-in-Src : goal.returns-in-Src
returns-in-Src c =
    let h = rw c.constant-zero.ensures at c.prove_that-in-Src.ensures in
    rw c.in-Src.is h

pub returns-in-Tok : goal.returns-in-Tok
returns-in-Tok c = rw c.in-Tok.is (weaker _ _ _ inapplicable)

pub returns-in-None : goal.returns-in-None
returns-in-None c =
    let h = rw c.constant-first.ensures at c.prove_that-in-None.ensures in
    rw (c.in-Span.is, c.in-None.is) h

pub returns-in-Some : goal.returns-in-Some
returns-in-Some c = rw (c.in-Span.is, c.in-Some.is) (weaker _ _ _ inapplicable)
