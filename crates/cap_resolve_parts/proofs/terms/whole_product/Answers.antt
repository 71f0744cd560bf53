use Rattle.std.proofs.Common.{◌≤◌, length, sym, ap, arith}
use Rattle.cap_parse_tree.specs.declared.term.Product.{out-Product}
use Rattle.cap_resolve_parts.proofs.Wholes.{long_product}
use Rattle.cap_resolve_parts.proofs.terms.whole_product.Goals as goal

pub returns-in-len1-up : goal.returns-in-len1-up
returns-in-len1-up c =
    let n : 1 ≤ length (out-Product c.args.product.now).more.items = omega (arith, c.in-len1-up.len_at_least, ap length c.as_slice.ensures.value) in
    sym (long_product c.args.product.now n)
