use Rattle.std.proofs.Common.{◌≡◌, ◌++◌, drop}
use Rattle.cap_offer_spec.specs.Closures.{numbers_of}
use Rattle.cap_closure.specs.Views.{list_view}
use Rattle.cap_closure.proofs.closing.numbers_of.Given as goal

abbrev pub invariant-loop-listed : goal.invariant-loop-listed
invariant-loop-listed l = l.numbers.items ++ numbers_of (list_view (drop l.listed-index l.list)) ≡ numbers_of (list_view l.list)
