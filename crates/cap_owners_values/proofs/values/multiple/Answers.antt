use Rattle.cap_owners_values.proofs.Sums.{product_with_zero}
use Rattle.cap_owners_values.proofs.values.multiple.Goals as goal

pub returns-in-Int-Share : goal.returns-in-Int-Share
returns-in-Int-Share c = rw (c.in-Int-Share.is-0, c.in-Int-Share.is-1) (product_with_zero c.args.coefficient)
