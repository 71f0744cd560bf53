use Rattle.cap_syntax.proofs.Numbers.{passes_limit}
use Rattle.cap_syntax.proofs.spelling.number_of.Goals as goal

pub returns-then-number-digit : goal.returns-then-number-digit
returns-then-number-digit c =
    passes_limit c.args.digits.now c.loop-byte.byte-index c.loop-byte.number c.from-digit.result c.loop-byte-test.true c.loop-byte.invariant.0 c.from-digit.ensures c.if-number-digit.true
