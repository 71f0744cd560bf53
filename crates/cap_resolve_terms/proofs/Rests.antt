-- What is left of the parts of a product and of a term, in a loop over them.
use Rattle.std.proofs.Common.{List, map}
use Rattle.cap_parse_tree.specs.declared.term.Times.{Times}
use Rattle.cap_parse_tree.specs.declared.term.Addend.{Addend}
use Rattle.cap_parse_tree.specs.Tree.{FactorTrees, ProductTrees}
use Rattle.cap_parse_tree.specs.Views.{factors_of, products_of, times_view, addend_view}

abbrev pub factors_view : List Times → FactorTrees
factors_view ts = factors_of (map times_view ts)

abbrev pub products_view : List Addend → ProductTrees
products_view more = products_of (map addend_view more)
