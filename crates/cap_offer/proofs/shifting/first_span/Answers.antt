use Rattle.std.proofs.Common.{◌<◌, length, arith}
use Rattle.cap_offer.proofs.Spans.{span-goes, span-finds}
use Rattle.cap_offer.proofs.Trials.{found-so, found-first}
use Rattle.cap_offer.proofs.shifting.first_span.Goals as goal

pub loop-number-preserved : goal.loop-number-preserved
loop-number-preserved c =
    let a = c.args in
    let s = a.state.now in
    let h : c.loop-number.number < length s.before = rw (← c.before-2.ensures) (omega (arith, c.in_ok-pieces.ensures)) in
    let e = rw c.if-found.false at c.in_ok-found.ensures in
    found-so _ _ _ c.loop-number.invariant (span-goes s a.fact.now a.env.now a.guard.now c.loop-number.number c.loop-number.notes c.is_within.new.notes h e)

pub returns-then-found : goal.returns-then-found
returns-then-found c =
    let a = c.args in
    let s = a.state.now in
    let h : c.loop-number.number < length s.before = rw (← c.before-2.ensures) (omega (arith, c.in_ok-pieces.ensures)) in
    let e = rw c.if-found.true at c.in_ok-found.ensures in
    found-first _ _ _ c.loop-number.invariant (span-finds s a.fact.now a.env.now a.guard.now c.loop-number.number c.loop-number.notes c.is_within.new.notes h e)
