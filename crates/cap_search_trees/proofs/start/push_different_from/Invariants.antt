use Rattle.std.proofs.Common.{◌≡◌, ◌++◌, map, drop}
use Rattle.cap_lin.specs.declared.row.Op.TheVariants.{Ne as Unequal}
use Rattle.cap_search_spec.specs.Starts.{made}
use Rattle.cap_search_trees.specs.Starts.{claims_view, terms_lent}
use Rattle.cap_search_trees.proofs.start.push_different_from.Given as goal

abbrev pub invariant-loop-other : goal.invariant-loop-other
invariant-loop-other l =
    claims_view l.claims.items ++ map (λ b. made l.address Unequal b) (terms_lent (drop l.other-index l.others))
    ≡ claims_view l.fn.claims.items ++ map (λ b. made l.address Unequal b) (terms_lent l.others)
