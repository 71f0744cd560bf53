use Rattle.std.proofs.Common.{◌≡◌, ◌-◌}
use Rattle.cap_prog.specs.Views.{region_view}
use Rattle.std.proofs.Common.{length}
use Rattle.cap_offer_spec.specs.Closures.{rounds}
use Rattle.cap_closure.specs.Views.{list_view}
use Rattle.cap_closure.proofs.surviving.rounds.Given as goal

abbrev pub invariant-loop-turn : goal.invariant-loop-turn
invariant-loop-turn l =
    let k = region_view l.region in
    let whole = rounds k l.state l.fact (length l.fn.list.items) (list_view l.fn.list.items) l.fn.notes in
    let rest = rounds k l.state l.fact (l._turn-end - l._turn) (list_view l.list.items) l.notes in
    (whole.value ≡ rest.value) × (whole.notes ≡ rest.notes)
