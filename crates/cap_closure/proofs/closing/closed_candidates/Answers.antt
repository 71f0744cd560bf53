use Rattle.std.proofs.Common.{ap, ◌∙◌}
use Rattle.cap_prog.specs.Views.{region_view}
use Rattle.cap_stab_states.specs.Views.{candidates_view}
use Rattle.cap_closure.proofs.Starts.{closed-seen}
use Rattle.cap_closure.proofs.closing.closed_candidates.Goals as goal

pub returns : goal.returns
returns c =
    let a = c.args in
    let e = ap candidates_view c.deref.ensures.value ∙ c.in_ok-candidates.ensures in
    closed-seen (region_view a.region.now) a.state.now a.fact.now (candidates_view c.deref.result.now) c.in_ok-list.list.items c.rounds.result a.notes.now _ _ e c.in_ok-list.ensures c.rounds.ensures
