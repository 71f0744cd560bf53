use Rattle.std.proofs.Common.{◌≡◌, ◌++◌, drop, map}
use Rattle.cap_parse_tree.specs.Tree.{parts_of}
use Rattle.cap_parse_tree.specs.Views.{several_view, guard_view, behind_view}
use Rattle.cap_resolve_parts.specs.Views.{guards_view}
use Rattle.cap_resolve_parts.proofs.lists.atoms_of.Given as goal

abbrev pub invariant-loop-part : goal.invariant-loop-part
invariant-loop-part l =
    guards_view l.atoms.items ++ map (λ m. m.1) (map (behind_view guard_view) (drop l.part-index l.part-items))
    ≡ parts_of (several_view guard_view l.list)
