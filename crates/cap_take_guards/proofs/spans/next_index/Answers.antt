use Rattle.std.proofs.lemmas.Result.{err_from_is_err_and}
use Rattle.cap_rules_steps.proofs.Walking.{all_narrow, last_wide}
use Rattle.cap_take_guards.proofs.spans.next_index.Goals as goal

pub returns-in_err-add : goal.returns-in_err-add
returns-in_err-add c =
    let p = err_from_is_err_and c.from_residual.result c.from_residual.ensures.1 in
    let m = rw c.constant-one.ensures at c.in_err-add.ensures.exact in
    rw (p.1, p.2) (last_wide _ _ _ m)

pub returns : goal.returns
returns c =
    let k = rw c.constant-one.ensures at c.in_ok-add.ensures.exact in
    rw k.1 (all_narrow _ _ k.0)
