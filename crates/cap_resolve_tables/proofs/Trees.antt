-- The views of items compute.
use Rattle.std.proofs.Common.{◌≡◌, rules}
use Rattle.cap_syntax.specs.declared.place.Place.{Place}
use Rattle.cap_parse_tree.specs.declared.word.Word.{Word}
use Rattle.cap_parse_tree.specs.declared.assertion.Guards.{Guards}
use Rattle.cap_parse_tree.specs.declared.assertion.Item.TheVariants as code
use Rattle.cap_parse_tree.specs.declared.assertion.Item.TheFolds.{the_lemmas}
use Rattle.cap_parse_tree.specs.Tree.{guards}
use Rattle.cap_parse_tree.specs.Views.{item_view, held_view}

pub view-Guards : (w : Word) (p : Place) (g : Guards) → item_view (code.Guards w p g) ≡ guards w p (held_view g)
view-Guards w p g = search (rules, the_lemmas)
