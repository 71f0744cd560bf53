use Rattle.std.proofs.Common.{◌<◌, length, refl, sym, ap, subst, ◌∙◌}
use Rattle.std.proofs.lemmas.Result.{err_from_is_err_and}
use Rattle.cap_goal_spec.specs.States.{goals_of}
use Rattle.cap_take_items.specs.Views.{remaining_view, tasks_ahead}
use Rattle.cap_rules_steps.proofs.Walking.{made_claims, unmade_claims, claims_then, claims_fail, claims_value, claims_no_value, no_memory_claims, weaker, done_as}
use Rattle.cap_take_guards.specs.Views.{cut_view}
use Rattle.cap_take_guards.proofs.Keeping.{cut-keeps, room-there}
use Rattle.cap_take_guards.proofs.Places.{within}
use Rattle.cap_take_guards.proofs.guards.piece.Goals as goal

pub returns-in_err-there : goal.returns-in_err-there
returns-in_err-there c =
    let p = err_from_is_err_and c.from_residual.result c.from_residual.ensures.1 in
    rw (p.1, p.2) (unmade_claims _ _ _ _ c.in_err-there.ensures)

pub returns-in_err-needed : goal.returns-in_err-needed
returns-in_err-needed c =
    let p = err_from_is_err_and c.from_residual-in_err-needed.result c.from_residual-in_err-needed.ensures.1 in
    let m = rw c.is_of_atom.ensures at c.in_err-needed.ensures in
    rw (p.1, p.2) (made_claims _ _ _ _ _ _ c.in_ok-there.ensures (unmade_claims _ _ _ _ m))

pub returns-in_err-names : goal.returns-in_err-names
returns-in_err-names c =
    let p = err_from_is_err_and c.from_residual-in_err-names.result c.from_residual-in_err-names.ensures.1 in
    rw (p.1, p.2) (no_memory_claims _ _ _)

pub returns-in_err-named : goal.returns-in_err-named
returns-in_err-named c =
    let p = err_from_is_err_and c.from_residual-in_err-named.result c.from_residual-in_err-named.ensures.1 in
    let n = rw c.is_of_atom.ensures at c.in_ok-needed.ensures in
    let m = rw c.in_ok-names.ensures at c.in_err-named.ensures in
    rw (p.1, p.2) (made_claims _ _ _ _ _ _ c.in_ok-there.ensures (made_claims _ _ _ _ _ _ n (unmade_claims _ _ _ _ m)))

pub returns-in_err-prove_equal : goal.returns-in_err-prove_equal
returns-in_err-prove_equal c =
    let p = err_from_is_err_and c.from_residual-in_err-prove_equal.result c.from_residual-in_err-prove_equal.ensures.1 in
    let n = rw c.is_of_atom.ensures at c.in_ok-needed.ensures in
    let t = rw c.in_ok-names.ensures at c.in_ok-named.ensures in
    rw (p.1, p.2) (made_claims _ _ _ _ _ _ c.in_ok-there.ensures (made_claims _ _ _ _ _ _ n (made_claims _ _ _ _ _ _ t (claims_no_value _ _ _ _ _ _ refl c.in_err-prove_equal.ensures))))

pub returns-in_err-cut : goal.returns-in_err-cut
returns-in_err-cut c =
    let p = err_from_is_err_and c.from_residual-in_err-cut.result c.from_residual-in_err-cut.ensures.1 in
    let n = rw c.is_of_atom.ensures at c.in_ok-needed.ensures in
    let t = rw c.in_ok-names.ensures at c.in_ok-named.ensures in
    let m = rw c.in_ok-names.ensures at c.in_err-cut.ensures in
    rw (p.1, p.2) (made_claims _ _ _ _ _ _ c.in_ok-there.ensures (made_claims _ _ _ _ _ _ n (made_claims _ _ _ _ _ _ t (claims_value _ _ _ _ _ _ _ c.in_ok-prove_equal.ensures (claims_fail _ _ _ _ _ m)))))

pub state_after-requires-clause-there : goal.state_after-requires-clause-there
state_after-requires-clause-there c =
    let a = c.args in
    let q = c.in_ok-there.there.now in
    let e = cut-keeps a.state.now c.in_ok-names.names a.asked.now q.form a.way (cut_view c.in_ok-cut.cut) _ _ c.in_ok-cut.ensures in
    let h : a.number < length a.state.now.guards = within a.state.now.guards a.number q c.in_ok-there.ensures in
    subst (λ gs. a.number < length gs) (sym e.0) h

pub state_after-requires-clause-room : goal.state_after-requires-clause-room
state_after-requires-clause-room c =
    let a = c.args in
    let q = c.in_ok-there.there.now in
    let e = cut-keeps a.state.now c.in_ok-names.names a.asked.now q.form a.way (cut_view c.in_ok-cut.cut) _ _ c.in_ok-cut.ensures in
    room-there (cut_view c.in_ok-cut.cut) a.state.now.guards e

pub returns-in_err-next : goal.returns-in_err-next
returns-in_err-next c =
    let p = err_from_is_err_and c.from_residual-in_err-next.result c.from_residual-in_err-next.ensures.1 in
    rw (p.1, p.2) (no_memory_claims _ _ _)

pub returns-in_err-goes : goal.returns-in_err-goes
returns-in_err-goes c =
    let p = err_from_is_err_and c.from_residual-in_err-goes.result c.from_residual-in_err-goes.ensures.1 in
    rw (p.1, p.2) (no_memory_claims _ _ _)

pub returns : goal.returns
returns c =
    let n = rw c.is_of_atom.ensures at c.in_ok-needed.ensures in
    let t = rw c.in_ok-names.ensures at c.in_ok-named.ensures in
    let k = rw c.in_ok-names.ensures at c.in_ok-cut.ensures in
    let e = c.in_ok-goes.ensures ∙ ap (λ s. goals_of s (tasks_ahead (remaining_view c.args.rest.now))) c.in_ok-next.ensures in
    made_claims _ _ _ _ _ _ c.in_ok-there.ensures (made_claims _ _ _ _ _ _ n (made_claims _ _ _ _ _ _ t (claims_value _ _ _ _ _ _ _ c.in_ok-prove_equal.ensures (claims_then _ _ _ _ _ _ _ k (weaker _ _ _ (done_as _ _ e))))))
