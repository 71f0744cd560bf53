use Rattle.std.proofs.Common.{◌≡◌, ◌++◌, map, drop}
use Rattle.cap_lin.specs.declared.row.Op.TheVariants.{Ge as AtLeast}
use Rattle.cap_goal_spec.specs.Environments.{one_value}
use Rattle.cap_search_spec.specs.Starts.{made}
use Rattle.cap_search_trees.specs.Starts.{claims_view, terms_lent}
use Rattle.cap_search_trees.proofs.start.push_positive.Given as goal

abbrev pub invariant-loop-address : goal.invariant-loop-address
invariant-loop-address l =
    claims_view l.claims.items ++ map (λ a. made a AtLeast one_value) (terms_lent (drop l.address-index l.addresses))
    ≡ claims_view l.fn.claims.items ++ map (λ a. made a AtLeast one_value) (terms_lent l.addresses)
