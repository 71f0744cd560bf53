use Rattle.std.proofs.Common.{ap, ◌∙◌, fold}
use Rattle.cap_parse_tree.specs.Views.{tree_view}
use Rattle.cap_resolve_spec.specs.Finding.{note}
use Rattle.cap_resolve_terms.specs.Views.{noted_view}
use Rattle.cap_resolve_text.proofs.Joined.{text_is}
use Rattle.cap_resolve_text.proofs.trees.note_tree.Goals as goal

pub returns : goal.returns
returns c = c.in_ok-note_declarations.ensures ∙ ap (fold note (noted_view c.args.noted.now)) (text_is (tree_view c.args.tree.now))
