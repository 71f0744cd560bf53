use Rattle.std.proofs.Common.{◌≡◌, ◌≤◌, map, drop, length}
use Rattle.cap_prog.specs.Views.{action_view, region_view}
use Rattle.cap_offer_spec.specs.Closures.{survives}
use Rattle.cap_closure.specs.Asking.{AreAsked}
use Rattle.cap_closure.proofs.surviving.survives.Given as goal

abbrev pub invariant-loop-place : goal.invariant-loop-place
invariant-loop-place l =
    let k = region_view l.region in
    let whole = survives k l.state l.fact l.known l.row k.actions l.fn.notes in
    let rest = survives k l.state l.fact l.known l.row
    (map action_view (drop l.place l.region.actions.items)) l.notes in
    (whole.value ≡ rest.value)
    × (whole.notes ≡ rest.notes)
    × AreAsked k l.state l.fact l.known l.asked.items
    × (l.place ≤ length l.asked.items)
