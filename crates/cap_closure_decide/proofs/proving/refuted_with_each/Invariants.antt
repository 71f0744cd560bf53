use Rattle.std.proofs.Common.{◌≡◌, map}
use Rattle.std.specs.Vec.Iter.{into_iter_items}
use Rattle.cap_rules_steps.specs.Places.{ended_by}
use Rattle.cap_closure_decide.specs.Noting.{refuted_all}
use Rattle.cap_closure_decide.proofs.proving.refuted_with_each.Given as goal

abbrev pub invariant-loop-last : goal.invariant-loop-last
invariant-loop-last l =
    let whole = refuted_all (map (ended_by l.fn.rows.items) l.fn.lasts.items) l.fn.notes in
    let rest = refuted_all (map (ended_by l.fn.rows.items) (into_iter_items l.last-iterator)) l.notes in
    (l.rows.items ≡ l.fn.rows.items) × ((whole.value ≡ rest.value) × (whole.notes ≡ rest.notes))
