use Rattle.std.proofs.Common.{◌≡◌, ◌++◌}
use Rattle.std.specs.Vec.Iter.{into_iter_items}
use Rattle.cap_prog.specs.Views.{region_view}
use Rattle.cap_offer_spec.specs.Closures.{surviving}
use Rattle.cap_closure.specs.Asking.{AreAsked}
use Rattle.cap_closure.specs.Views.{list_view}
use Rattle.cap_closure.proofs.surviving.surviving.Given as goal

abbrev pub invariant-loop-listed : goal.invariant-loop-listed
invariant-loop-listed l =
    let k = region_view l.region in
    let whole = surviving k l.state l.fact l.known (list_view l.fn.list.items) l.fn.notes in
    let rest = surviving k l.state l.fact l.known
    (list_view (into_iter_items l.listed-iterator)) l.notes in
    (whole.value ≡ list_view l.rest.items ++ rest.value)
    × (whole.notes ≡ rest.notes)
    × AreAsked k l.state l.fact l.known l.asked.items
