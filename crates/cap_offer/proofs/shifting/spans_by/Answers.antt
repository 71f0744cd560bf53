use Rattle.std.proofs.Common.{List, Some, ap, sym, subst, ◌∙◌}
use Rattle.std.specs.Prelude.{ℕ, IfOk, Option}
use Rattle.cap_prog.specs.Views.{action_view, case_view}
use Rattle.cap_offer_spec.specs.Deciding.{Outcome, Noted}
use Rattle.cap_closure_decide.specs.Noting.{Adds}
use Rattle.cap_offer.specs.Views.{numbers_seen}
use Rattle.cap_offer.proofs.Spans.{with-indexed, without-indexed}
use Rattle.cap_offer.proofs.shifting.spans_by.Goals as goal

pub returns-then-asks_some : goal.returns-then-asks_some
returns-then-asks_some c =
    let a = c.args in
    let t = sym (rw c.deref.ensures.value at c.asks_some.ensures) ∙ c.if-asks_some.true in
    let e = with-indexed a.state.now a.opened a.fact.now (case_view a.case.now) a.env.now (action_view a.action.now) t in
    subst (λ (m : Noted (Option (List ℕ))). IfOk c.spans_by_turn.result (λ js. Adds a.notes.now c.spans_by_turn.new.notes (numbers_seen js) m)) e c.spans_by_turn.ensures

pub returns-else-asks_some : goal.returns-else-asks_some
returns-else-asks_some c =
    let a = c.args in
    let t = sym (rw c.deref.ensures.value at c.asks_some.ensures) ∙ c.if-asks_some.false in
    let e = ap (λ (m : Noted (Option (List ℕ))). m a.notes.now) (without-indexed a.state.now a.opened a.fact.now (case_view a.case.now) a.env.now (action_view a.action.now) t) in
    (ap Some c.new.ensures.items ∙ sym (ap (λ (o : Outcome (Option (List ℕ))). o.value) e), sym (ap (λ (o : Outcome (Option (List ℕ))). o.notes) e))
