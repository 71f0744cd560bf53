use Rattle.std.proofs.Common.{sym, ◌∙◌, arith}
use Rattle.cap_syntax.proofs.Longest.{wildcard_is_longest, nil_starts_none}
use Rattle.cap_syntax.proofs.spelling.longest_token.Goals as goal

pub returns-in_err-first : goal.returns-in_err-first
returns-in_err-first c =
    rw c.from_residual.ensures (nil_starts_none c.args.rest.now (omega (arith, c.in_err-first.ensures.item.3)))

pub returns-then-first-eq95 : goal.returns-then-first-eq95
returns-then-first-eq95 c =
    wildcard_is_longest c.args.rest.now (sym (c.in_ok-first.ensures.item.4 (omega arith) 0) ∙ c.if-first-eq95.true)
