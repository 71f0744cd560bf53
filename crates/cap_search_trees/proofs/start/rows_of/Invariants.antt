use Rattle.std.proofs.Common.{◌≡◌, ◌++◌, drop}
use Rattle.cap_lin.specs.Steps.{first_wide}
use Rattle.cap_search_trees.specs.Starts.{claims_view, made_rows, made_steps}
use Rattle.cap_search_trees.proofs.start.rows_of.Given as goal

abbrev pub invariant-loop-claim : goal.invariant-loop-claim
invariant-loop-claim l = record {
  rows : l.rows.items ++ made_rows (claims_view (drop l.claim-index l.claims)) ≡ made_rows (claims_view l.claims);
  steps : first_wide (made_steps (claims_view (drop l.claim-index l.claims))) ≡ first_wide (made_steps (claims_view l.claims));
}
