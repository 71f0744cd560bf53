use Rattle.std.proofs.Common.{◌≡◌, ◌++◌, drop}
use Rattle.cap_offer_spec.specs.Closures.{rows_of}
use Rattle.cap_closure.specs.Views.{list_view}
use Rattle.cap_closure.proofs.surviving.rows_of.Given as goal

abbrev pub invariant-loop-listed : goal.invariant-loop-listed
invariant-loop-listed l = l.rows.items ++ rows_of (list_view (drop l.listed-index l.list)) ≡ rows_of (list_view l.list)
