use Rattle.std.proofs.Common.{refl, rules, ap, ◌≡◌, ◌∙◌, sym, length}
use Rattle.std.proofs.lemmas.Result.{err_from_is_err_and}
use Rattle.cap_rules_steps.proofs.Naming.{names-seen}
use Rattle.cap_rules_steps.proofs.Walking.{then_made, unmade, then_narrow, wide, done_as}
use Rattle.cap_pure.proofs.calls.give_back.Goals as goal

pub returns-in_err-function : goal.returns-in_err-function
returns-in_err-function c =
    let p = err_from_is_err_and c.from_residual.result c.from_residual.ensures.1 in
    rw (p.1, p.2) (unmade _ _ _ c.in_err-function.ensures)

pub returns-in_err-value : goal.returns-in_err-value
returns-in_err-value c =
    let p = err_from_is_err_and c.from_residual-in_err-value.result c.from_residual-in_err-value.ensures.1 in
    rw (p.1, p.2) (then_made _ _ _ _ c.in_ok-function.ensures (wide _ _ _ c.in_err-value.ensures))

pub returns-in_err-env : goal.returns-in_err-env
returns-in_err-env c =
    let p = err_from_is_err_and c.from_residual-in_err-env.result c.from_residual-in_err-env.ensures.1 in
    let n : c.len-new.result ≡ length c.in_ok-function.function.now.ensures_.names.items = search rules in
    let m = n ∙ ap length (sym (names-seen c.in_ok-function.function.now.ensures_)) in
    let k = rw (c.in_ok-next.ensures, c.in_ok-locals.ensures, c.in_ok-value.ensures.1, m) at c.in_err-env.ensures.makes in
    rw (p.1, p.2) (then_made _ _ _ _ c.in_ok-function.ensures (then_narrow _ _ _ c.in_ok-value.ensures.0 (unmade _ _ _ k)))

pub returns : goal.returns
returns c =
    let n : c.len-new.result ≡ length c.in_ok-function.function.now.ensures_.names.items = search rules in
    let m = n ∙ ap length (sym (names-seen c.in_ok-function.function.now.ensures_)) in
    let k = rw (c.in_ok-next.ensures, c.in_ok-locals.ensures, c.in_ok-value.ensures.1, m) at c.in_ok-env.ensures.makes in
    let e = rw c.in_ok-next.ensures at c.in_ok-env.ensures.place in
    then_made _ _ _ _ c.in_ok-function.ensures (then_narrow _ _ _ c.in_ok-value.ensures.0 (then_made _ _ _ _ k (done_as _ _ (rw (c.in_ok-leaves.ensures, c.in_ok-tasks.ensures, e) refl))))
