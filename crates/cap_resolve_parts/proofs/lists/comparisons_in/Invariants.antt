use Rattle.std.proofs.Common.{◌≡◌, ◌++◌, drop, map}
use Rattle.cap_parse_tree.specs.Tree.{parts_of}
use Rattle.cap_parse_tree.specs.Views.{several_view, comparison_view, behind_view}
use Rattle.cap_resolve_parts.specs.Views.{comparisons_view}
use Rattle.cap_resolve_parts.proofs.lists.comparisons_in.Given as goal

abbrev pub invariant-loop-part : goal.invariant-loop-part
invariant-loop-part l =
    comparisons_view l.comparisons.items ++ map (λ m. m.1) (map (behind_view comparison_view) (drop l.part-index l.part-items))
    ≡ parts_of (several_view comparison_view l.list)
