use Rattle.std.proofs.Common.{◌≡◌, ◌+◌, ◌++◌, drop}
use Rattle.cap_stab_states.specs.Views.{candidates_view}
use Rattle.cap_closure.specs.Tested.{started_from}
use Rattle.cap_closure.specs.Views.{list_view}
use Rattle.cap_closure.proofs.starting.started_behind.Given as goal

abbrev pub invariant-loop-place : goal.invariant-loop-place
invariant-loop-place l =
    let whole = started_from l.state l.fact 1 (candidates_view l.candidates) l.fn.notes in
    let rest = started_from l.state l.fact (l.place + 1) (candidates_view (drop l.place l.candidates)) l.notes in
    (l.rows.items ≡ l.state.rows) × ((whole.value ≡ list_view l.list.items ++ rest.value) × (whole.notes ≡ rest.notes))
