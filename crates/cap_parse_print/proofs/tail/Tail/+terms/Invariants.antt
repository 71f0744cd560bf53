use Rattle.std.proofs.Common.{◌≡◌, map, drop}
use Rattle.cap_parse_tree.specs.Spelling.{spell_factors, spell_products}
use Rattle.cap_parse_tree.specs.Views.{times_view, addend_view, factors_of, products_of}
use Rattle.cap_parse_print.proofs.tail.Tail.+terms.Given as goal

abbrev pub invariant-times-loop-i : goal.invariant-times-loop-i
invariant-times-loop-i l =
    l.self ≡ spell_factors (factors_of (map times_view (drop l.i l.times))) l.fn.self

abbrev pub invariant-addends-loop-i : goal.invariant-addends-loop-i
invariant-addends-loop-i l =
    l.self ≡ spell_products (products_of (map addend_view (drop l.i l.addends))) l.fn.self
