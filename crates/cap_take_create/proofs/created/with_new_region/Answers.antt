use Rattle.std.proofs.lemmas.Result.{err_from_is_err_and}
use Rattle.cap_rules_steps.proofs.Walking.{then_made, unmade}
use Rattle.cap_take_create.proofs.created.with_new_region.Goals as goal

pub returns-in_err-created-clause-makes : goal.returns-in_err-created-clause-makes
returns-in_err-created-clause-makes c =
    let p = err_from_is_err_and c.from_residual-in_err-created.result c.from_residual-in_err-created.ensures.1 in
    rw (p.1, p.2) (unmade _ _ _ c.in_err-created.ensures.makes)

pub returns-in_err-with_apart-clause-makes : goal.returns-in_err-with_apart-clause-makes
returns-in_err-with_apart-clause-makes c =
    let p = err_from_is_err_and c.from_residual-in_err-with_apart.result c.from_residual-in_err-with_apart.ensures.1 in
    let d = rw (c.facts.ensures, c.opened.ensures, c.in_ok-known.ensures, c.in_ok-created.ensures.fresh) at c.in_err-with_apart.ensures in
    rw (p.1, p.2) (then_made _ _ _ _ c.in_ok-created.ensures.makes (unmade _ _ _ d))

pub returns-in_err-with_pieces-clause-makes : goal.returns-in_err-with_pieces-clause-makes
returns-in_err-with_pieces-clause-makes c =
    let p = err_from_is_err_and c.from_residual-in_err-with_pieces.result c.from_residual-in_err-with_pieces.ensures.1 in
    let d = rw (c.facts.ensures, c.opened.ensures, c.in_ok-known.ensures, c.in_ok-created.ensures.fresh) at c.in_ok-with_apart.ensures in
    let q = rw (c.deref.ensures.value, c.in_ok-pieces.ensures.exact, c.in_ok-created.ensures.fresh) at c.in_err-with_pieces.ensures in
    rw (p.1, p.2) (then_made _ _ _ _ c.in_ok-created.ensures.makes (then_made _ _ _ _ d q))

pub returns-clause-makes : goal.returns-clause-makes
returns-clause-makes c =
    let d = rw (c.facts.ensures, c.opened.ensures, c.in_ok-known.ensures, c.in_ok-created.ensures.fresh) at c.in_ok-with_apart.ensures in
    let q = rw (c.deref.ensures.value, c.in_ok-pieces.ensures.exact, c.in_ok-created.ensures.fresh) at c.in_ok-with_pieces.ensures in
    then_made _ _ _ _ c.in_ok-created.ensures.makes (then_made _ _ _ _ d q)
