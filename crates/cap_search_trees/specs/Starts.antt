-- What contracts see of the comparisons that hold of whatever meets a precondition.
use Rattle.std.specs.Prelude.{List, map, flat_map}
use Rattle.std.specs.Borrow.{Bor}
use Rattle.cap_lin.specs.Linear.{Linear}
use Rattle.cap_lin.specs.Steps.{Step}
use Rattle.cap_lin.specs.Rows.{row_of, row_of_steps}
use Rattle.cap_lin.specs.declared.row.Row.{Row}
use Rattle.cap_goal_spec.specs.Candidates.{MadeRow}
use Rattle.cap_search_trees.specs.declared.start.Claim.{Claim}

abbrev pub claim_view : Claim → MadeRow
claim_view c = record {
  row = row_of c.left.now c.op c.right.now c.sort;
  steps = row_of_steps c.left.now c.op c.right.now c.sort;
}

abbrev pub claims_view : List Claim → List MadeRow
claims_view cs = map claim_view cs

abbrev pub terms_lent : List (Bor Linear) → List Linear
terms_lent ts = map (λ t. t.now) ts

abbrev pub made_rows : List MadeRow → List Row
made_rows ms = map (λ (m : MadeRow). m.row) ms

abbrev pub made_steps : List MadeRow → List Step
made_steps ms = flat_map (λ (m : MadeRow). m.steps) ms
