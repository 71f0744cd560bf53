use Rattle.std.proofs.Common.{◌≡◌, length, sym, ◌∙◌, subst, rules, Some, arith}
use Rattle.std.specs.Prelude.{slice_get}
use Rattle.std.specs.Vec.{vec_len}
use Rattle.cap_prog.specs.Views.{action_view, region_view}
use Rattle.cap_closure.proofs.Requests.{are-pushed, action-there}
use Rattle.cap_closure.proofs.surviving.ask_next.Goals as goal

pub returns-in_ok-push-clause-asked : goal.returns-in_ok-push-clause-asked
returns-in_ok-push-clause-asked c =
    let a = c.args in
    let k = region_view a.region.now in
    let x = action_view c.index-action.result.now in
    let long : length a.asked.now.items ≡ vec_len a.asked.now = search rules in
    let same : a.place ≡ length a.asked.now.items =
    c.if-place-len.true ∙ c.len.ensures ∙ sym long in
    let all : length a.region.now.actions.items ≡ vec_len a.region.now.actions = search rules in
    let bound = c.requires.place in
    let there = action-there a.region.now.actions.items a.place c.index-action.result.now
    (omega (arith, bound, all)) c.index-action.ensures in
    rw c.in_ok-push.ensures.items
    (are-pushed k a.state.now a.fact.now a.known.now a.asked.now.items c.requires.asked
    c.in_ok-next.next x (subst (λ i. slice_get k.actions i ≡ Some x) same there)
    c.in_ok-next.ensures)
