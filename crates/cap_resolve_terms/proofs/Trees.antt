-- The views of factors compute.
use Rattle.std.proofs.Common.{◌≡◌, rules}
use Rattle.cap_parse_tree.specs.declared.word.Word.{Word}
use Rattle.cap_parse_tree.specs.declared.term.Factor.TheVariants as code
use Rattle.cap_parse_tree.specs.declared.term.Factor.TheFolds.{the_lemmas}
use Rattle.cap_parse_tree.specs.Tree.{named}
use Rattle.cap_parse_tree.specs.Views.{factor_view}

pub view-Name : (w : Word) → factor_view (code.Name w) ≡ named w
view-Name w = search (rules, the_lemmas)
