use Rattle.std.proofs.Common.{arith}
use Rattle.cap_galg_spec.proofs.Amounts.{amount-test}
use Rattle.cap_galg_spec.proofs.fraction.Fraction.is_amount.Goals as goal

pub returns : goal.returns
returns c = amount-test c.args.self c.common_divisor.result (omega arith) (omega arith) c.common_divisor.ensures
