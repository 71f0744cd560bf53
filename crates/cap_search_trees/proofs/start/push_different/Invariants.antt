use Rattle.std.proofs.Common.{◌≡◌, ◌++◌, drop}
use Rattle.cap_search_spec.specs.Starts.{different}
use Rattle.cap_search_trees.specs.Starts.{claims_view, terms_lent}
use Rattle.cap_search_trees.proofs.start.push_different.Given as goal

abbrev pub invariant-loop-place : goal.invariant-loop-place
invariant-loop-place l =
    claims_view l.claims.items ++ different (terms_lent (drop l.place l.addresses))
    ≡ claims_view l.fn.claims.items ++ different (terms_lent l.addresses)
