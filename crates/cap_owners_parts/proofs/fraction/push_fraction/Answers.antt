use Rattle.cap_owners_parts.proofs.Texts.{divisor-above, fraction_written}
use Rattle.cap_owners_parts.proofs.fraction.push_fraction.Goals as goal

pub nonzero_div-numerator : goal.nonzero_div-numerator
nonzero_div-numerator c = divisor-above c.args.numerator c.common_divisor-divisor.result c.common_divisor-divisor.ensures

pub nonzero_div-divisor : goal.nonzero_div-divisor
nonzero_div-divisor c = divisor-above c.args.numerator c.common_divisor-divisor.result c.common_divisor-divisor.ensures

pub returns : goal.returns
returns c = fraction_written c.push_count-2.result c.args.numerator c.common_divisor-divisor.result c.args.text.now.items c.push_count.new.text.items c.push.new.self.items c.push_count-2.new.text.items c.common_divisor-divisor.ensures c.in_ok-push_count.ensures c.in_ok-push.ensures.items c.push_count-2.ensures
