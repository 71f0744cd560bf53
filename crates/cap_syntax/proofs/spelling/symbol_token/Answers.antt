use Rattle.std.proofs.Common.{arith}
use Rattle.cap_syntax.proofs.Longest.{symbol_is_longest, starts_none}
use Rattle.cap_syntax.proofs.spelling.symbol_token.Goals as goal

pub returns-then-length-eq0 : goal.returns-then-length-eq0
returns-then-length-eq0 c =
    starts_none c.args.rest.now c.requires (λ m positive le. c.symbol_length-length.ensures.longest m (omega arith) le)

pub returns-else-length-eq0 : goal.returns-else-length-eq0
returns-else-length-eq0 c =
    symbol_is_longest c.args.rest.now _ c.requires c.symbol_length-length.ensures.within (c.symbol_length-length.ensures.spelled (omega arith)) c.symbol_length-length.ensures.longest
