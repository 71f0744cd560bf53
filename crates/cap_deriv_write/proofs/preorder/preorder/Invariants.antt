use Rattle.std.proofs.Common.{◌≡◌, ◌++◌, map, drop, option_map}
use Rattle.cap_goal.specs.Trees.{node_view, bundle_view}
use Rattle.cap_deriv_write.specs.Preorder.{choices_of_roots}
use Rattle.cap_deriv_write.specs.Seen.{choices_seen}
use Rattle.cap_deriv_write.proofs.preorder.preorder.Given as goal

-- the choices so far, and those of the roots that are left
abbrev pub invariant-loop-root : goal.invariant-loop-root
invariant-loop-root l =
    choices_seen l.list.items ++ choices_of_roots (map (option_map node_view) (drop l.root-index l.root-items))
    ≡ choices_of_roots (bundle_view l.bundle)
