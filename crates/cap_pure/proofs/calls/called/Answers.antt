use Rattle.std.proofs.lemmas.Result.{err_from_is_err_and}
use Rattle.cap_rules_steps.proofs.Walking.{then_made, unmade, no_memory}
use Rattle.std.proofs.Common.{ap, ◌∙◌, length}
use Rattle.cap_goal_spec.specs.States.{PlainState}
use Rattle.cap_pure.proofs.Calling.{destination-envs, sort-envs}
use Rattle.cap_pure.proofs.calls.called.Goals as goal

pub returns-in_err-values-clause-makes : goal.returns-in_err-values-clause-makes
returns-in_err-values-clause-makes c =
    let p = err_from_is_err_and c.from_residual.result c.from_residual.ensures.1 in
    rw (p.1, p.2) (unmade _ _ _ c.in_err-values.ensures)

pub returns-in_err-fresh-clause-makes : goal.returns-in_err-fresh-clause-makes
returns-in_err-fresh-clause-makes c =
    let p = err_from_is_err_and c.from_residual-in_err-fresh.result c.from_residual-in_err-fresh.ensures.1 in
    rw (p.1, p.2) (then_made _ _ _ _ c.in_ok-values.ensures (unmade _ _ _ c.in_err-fresh.ensures.makes))

pub returns-in_err-env-clause-makes : goal.returns-in_err-env-clause-makes
returns-in_err-env-clause-makes c =
    let p = err_from_is_err_and c.from_residual-in_err-env.result c.from_residual-in_err-env.ensures.1 in
    rw (p.1, p.2) (no_memory _)

pub returns-in_err-with_destination-clause-makes : goal.returns-in_err-with_destination-clause-makes
returns-in_err-with_destination-clause-makes c =
    let p = err_from_is_err_and c.from_residual-in_err-with_destination.result c.from_residual-in_err-with_destination.ensures.1 in
    rw (p.1, p.2) (no_memory _)

pub returns-in_err-with_env-clause-makes : goal.returns-in_err-with_env-clause-makes
returns-in_err-with_env-clause-makes c =
    let p = err_from_is_err_and c.from_residual-in_err-with_env.result c.from_residual-in_err-with_env.ensures.1 in
    let f = c.in_ok-fresh.ensures.fresh in
    let k = rw (c.in_ok-with_destination.ensures, c.in_ok-env.ensures, c.deref.ensures.value, f) at c.in_err-with_env.ensures.makes in
    rw (p.1, p.2) (then_made _ _ _ _ c.in_ok-values.ensures (then_made _ _ _ _ c.in_ok-fresh.ensures.makes k))

pub returns-clause-makes : goal.returns-clause-makes
returns-clause-makes c =
    let f = c.in_ok-fresh.ensures.fresh in
    let k = rw (c.in_ok-with_destination.ensures, c.in_ok-env.ensures, c.deref.ensures.value, f) at c.in_ok-with_env.ensures.makes in
    then_made _ _ _ _ c.in_ok-values.ensures (then_made _ _ _ _ c.in_ok-fresh.ensures.makes k)

pub returns-clause-place : goal.returns-clause-place
returns-clause-place c = c.in_ok-with_env.ensures.place ∙ ap length (ap (λ (s : PlainState). s.envs) c.in_ok-with_destination.ensures ∙ (destination-envs c.with_sort.new.state c.args.destination _ ∙ sort-envs c.args.state.now c.with_sort.new.state _ c.in_ok-fresh.ensures.makes))
