use Rattle.std.proofs.Common.{arith, ◌∙◌, sym}
use Rattle.cap_replay_schedules.proofs.NumberLemmas.{past_limit}
use Rattle.cap_replay_schedules.proofs.numbers.+more_digits.Goals as goal

pub returns-in_err-checked_mul-in-len1-up-clause-is :
    goal.returns-in_err-checked_mul-in-len1-up-clause-is
returns-in_err-checked_mul-in-len1-up-clause-is t c =
    let n = c.in_err-checked_mul-in-len1-up.ensures in
    c.from_residual.ensures ∙ sym (past_limit c.args.limit c.args.value c.args.digits.now (omega arith) (omega (arith, c.ranges.limit)))

pub returns-in_err-next-in-len1-up-clause-is : goal.returns-in_err-next-in-len1-up-clause-is
returns-in_err-next-in-len1-up-clause-is t c =
    let n = c.in_err-next-in-len1-up.ensures in
    let m = c.in_ok-checked_mul-in-len1-up.ensures in
    c.from_residual-in_err-next-in-len1-up.ensures ∙ sym (past_limit c.args.limit c.args.value c.args.digits.now (omega arith) (omega (arith, c.ranges.limit)))

pub returns-then-next-limit-clause-is : goal.returns-then-next-limit-clause-is
returns-then-next-limit-clause-is t c =
    let n = c.in_ok-next-in-len1-up.ensures in
    let m = c.in_ok-checked_mul-in-len1-up.ensures in
    sym (past_limit c.args.limit c.args.value c.args.digits.now (omega arith) (omega arith))
