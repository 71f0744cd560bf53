use Rattle.std.proofs.lemmas.Result.{err_from_is_err_and}
use Rattle.cap_rules_steps.proofs.Walking.{then_made, unmade}
use Rattle.cap_take_create.proofs.Apart.{differ-both}
use Rattle.cap_take_create.proofs.created.with_apart.Goals as goal

pub returns-in_err-with_differing : goal.returns-in_err-with_differing
returns-in_err-with_differing c =
    let p = err_from_is_err_and c.from_residual.result c.from_residual.ensures.1 in
    let e = differ-both c.args.term.now c.args.facts.now c.args.opened.now c.args.state.now in
    rw (p.1, p.2, e) (unmade _ _ _ c.in_err-with_differing.ensures)

pub returns : goal.returns
returns c =
    let e = differ-both c.args.term.now c.args.facts.now c.args.opened.now c.args.state.now in
    rw e (then_made _ _ _ _ c.in_ok-with_differing.ensures c.with_differing-2.ensures)
