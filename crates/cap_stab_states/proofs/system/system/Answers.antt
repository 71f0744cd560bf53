use Rattle.std.proofs.Common.{◌≡◌, length, sym, ap, ◌∙◌}
use Rattle.std.proofs.lemmas.Result.{err_from_is_err_and}
use Rattle.cap_prog.specs.Views.{action_view, region_view}
use Rattle.cap_goal_spec.specs.States.{PlainFact}
use Rattle.cap_rules.specs.Resting.{first_names}
use Rattle.cap_stab_states.proofs.Collected.{want_all_from, starts_length}
use Rattle.cap_stab_states.proofs.Systems.{source_fails, same_fails, conditions_fail, wanted_fail, compat_fails, system_made}
use Rattle.cap_stab_states.proofs.system.system.Goals as goal

pub returns-in_err-source : goal.returns-in_err-source
returns-in_err-source c =
    let a = c.args in
    let p = err_from_is_err_and c.from_residual.result c.from_residual.ensures.1 in
    rw (p.1, p.2) (source_fails (region_view a.region.now) a.state.now a.fact.now a.known.now (action_view a.action.now) a.names.now _ c.in_err-source.ensures)

pub returns-in_err-same : goal.returns-in_err-same
returns-in_err-same c =
    let a = c.args in
    let p = err_from_is_err_and c.from_residual-in_err-same.result c.from_residual-in_err-same.ensures.1 in
    let h = rw (c.in_ok-source.ensures.1, c.requires.later) at c.in_err-same.ensures.exact in
    rw (p.1, p.2) (same_fails (region_view a.region.now) a.state.now a.fact.now a.known.now (action_view a.action.now) a.names.now _ c.in_ok-source.ensures.0 h)

pub returns-in_err-conditions : goal.returns-in_err-conditions
returns-in_err-conditions c =
    let a = c.args in
    let p = err_from_is_err_and c.from_residual-in_err-conditions.result c.from_residual-in_err-conditions.ensures.1 in
    let same = rw (c.in_ok-source.ensures.1, c.requires.later) at c.in_ok-same.ensures.exact in
    let h = rw c.deref.ensures.value at c.in_err-conditions.ensures in
    rw (p.1, p.2) (conditions_fail (region_view a.region.now) a.state.now a.fact.now a.known.now (action_view a.action.now) a.names.now _ (record { source = c.in_ok-source.ensures.0; same = same.0 }) h)

pub wanted-requires : goal.wanted-requires
wanted-requires c =
    let a = c.args in
    ap length c.requires.wildcards ∙ (starts_length (first_names a.state.now a.fact.now) (action_view a.action.now).guards ∙ sym (ap length c.deref-2.ensures.value))

pub returns-in_err-wanted : goal.returns-in_err-wanted
returns-in_err-wanted c =
    let a = c.args in
    let x = action_view a.action.now in
    let w = first_names a.state.now a.fact.now in
    let p = err_from_is_err_and c.from_residual-in_err-wanted.result c.from_residual-in_err-wanted.ensures.1 in
    let same = rw (c.in_ok-source.ensures.1, c.requires.later) at c.in_ok-same.ensures.exact in
    let conditions = rw c.deref.ensures.value at c.in_ok-conditions.ensures in
    let h = rw (c.deref-2.ensures.value, c.requires.wildcards, want_all_from a.names.now w x.guards) at c.in_err-wanted.ensures in
    rw (p.1, p.2) (wanted_fail (region_view a.region.now) a.state.now a.fact.now a.known.now x a.names.now c.in_ok-conditions.conditions.items _ (record { source = c.in_ok-source.ensures.0; same = same.0 }) conditions h)

pub returns-in_err-compatible : goal.returns-in_err-compatible
returns-in_err-compatible c =
    let a = c.args in
    let x = action_view a.action.now in
    let w = first_names a.state.now a.fact.now in
    let p = err_from_is_err_and c.from_residual-in_err-compatible.result c.from_residual-in_err-compatible.ensures.1 in
    let same = rw (c.in_ok-source.ensures.1, c.requires.later) at c.in_ok-same.ensures.exact in
    let conditions = rw c.deref.ensures.value at c.in_ok-conditions.ensures in
    let wanted = rw (c.deref-2.ensures.value, c.requires.wildcards, want_all_from a.names.now w x.guards) at c.in_ok-wanted.ensures in
    let r : c.fact.inside.region ≡ a.fact.now.region = ap (λ (g : PlainFact). g.region) c.fact.view_is in
    let k : c.fact.inside.kind ≡ a.fact.now.kind = ap (λ (g : PlainFact). g.kind) c.fact.view_is in
    let h = rw (c.guards.ensures, r, k, c.deref-3.ensures.value) at c.in_err-compatible.ensures.exact in
    rw (p.1, p.2) (compat_fails (region_view a.region.now) a.state.now a.fact.now a.known.now x a.names.now c.in_ok-conditions.conditions.items c.in_ok-wanted.wanted.items _ (record { begun = record { source = c.in_ok-source.ensures.0; same = same.0 }; conditions = conditions; wanted = wanted }) h)

pub returns : goal.returns
returns c =
    let a = c.args in
    let s = a.state.now in
    let x = action_view a.action.now in
    let w = first_names s a.fact.now in
    let same = rw (c.in_ok-source.ensures.1, c.requires.later) at c.in_ok-same.ensures.exact in
    let conditions = rw c.deref.ensures.value at c.in_ok-conditions.ensures in
    let wanted = rw (c.deref-2.ensures.value, c.requires.wildcards, want_all_from a.names.now w x.guards) at c.in_ok-wanted.ensures in
    let r : c.fact.inside.region ≡ a.fact.now.region = ap (λ (g : PlainFact). g.region) c.fact.view_is in
    let k : c.fact.inside.kind ≡ a.fact.now.kind = ap (λ (g : PlainFact). g.kind) c.fact.view_is in
    let h = rw (c.guards.ensures, r, k, c.deref-3.ensures.value) at c.in_ok-compatible.ensures.exact in
    let all = rw (c.rows.ensures, same.1, c.deref-4.ensures.value, h.1) at c.in_ok-all.ensures in
    rw all (system_made (region_view a.region.now) s a.fact.now a.known.now x a.names.now c.in_ok-conditions.conditions.items c.in_ok-wanted.wanted.items (record { begun = record { source = c.in_ok-source.ensures.0; same = same.0 }; conditions = conditions; wanted = wanted }) h.0)
