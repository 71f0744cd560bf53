use Rattle.std.proofs.Common.{◌≡◌, ◌++◌, drop, map}
use Rattle.cap_parse_tree.specs.Tree.{parts_of}
use Rattle.cap_parse_tree.specs.Views.{several_view, word_view, behind_view}
use Rattle.cap_resolve_parts.specs.Views.{words_view}
use Rattle.cap_resolve_parts.proofs.lists.words_of.Given as goal

abbrev pub invariant-loop-part : goal.invariant-loop-part
invariant-loop-part l =
    words_view l.words.items ++ map (λ m. m.1) (map (behind_view word_view) (drop l.part-index l.part-items))
    ≡ parts_of (several_view word_view l.list)
