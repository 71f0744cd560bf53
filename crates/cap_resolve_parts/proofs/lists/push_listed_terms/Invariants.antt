use Rattle.std.proofs.Common.{◌≡◌, ◌++◌, drop, map}
use Rattle.cap_parse_tree.specs.Tree.{listed_parts}
use Rattle.cap_parse_tree.specs.Views.{listed_view, term_view, behind_view}
use Rattle.cap_resolve_parts.specs.Views.{terms_view}
use Rattle.cap_resolve_parts.proofs.lists.push_listed_terms.Given as goal

abbrev pub invariant-loop-part : goal.invariant-loop-part
invariant-loop-part l =
    terms_view l.terms.items ++ map (λ m. m.1) (map (behind_view term_view) (drop l.part-index l.part-items))
    ≡ terms_view l.fn.terms.items ++ listed_parts (listed_view term_view l.list)
