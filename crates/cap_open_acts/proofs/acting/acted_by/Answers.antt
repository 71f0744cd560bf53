use Rattle.std.proofs.Common.{◌∙◌, ap, refl, [], ◌∷◌}
use Rattle.std.proofs.lemmas.Result.{err_from_is_err_and}
use Rattle.cap_rules_steps.proofs.Walking.{then_value, no_value, value_is, no_memory, done_as}
use Rattle.cap_open_acts.proofs.acting.acted_by.Goals as goal

pub returns-in_err-done-in-Read : goal.returns-in_err-done-in-Read
returns-in_err-done-in-Read c =
    let p = err_from_is_err_and c.from_residual.result c.from_residual.ensures.1 in
    rw (p.1, p.2) (no_memory _)

pub returns-in_ok-done-in-Read : goal.returns-in_ok-done-in-Read
returns-in_ok-done-in-Read c = rw c.in-Read.is (done_as _ _ (rw c.in_ok-done-in-Read.ensures at c.only.ensures))

pub returns-in_err-done-in-Write : goal.returns-in_err-done-in-Write
returns-in_err-done-in-Write c =
    let p = err_from_is_err_and c.from_residual-in_err-done-in-Write.result c.from_residual-in_err-done-in-Write.ensures.1 in
    rw (p.1, p.2, c.in-Write.is) (no_value _ _ _ _ refl c.in_err-done-in-Write.ensures)

pub returns-in_ok-done-in-Write : goal.returns-in_ok-done-in-Write
returns-in_ok-done-in-Write c = rw c.in-Write.is (then_value _ _ _ _ c.in_ok-done-in-Write.ensures (done_as _ _ (c.only-in-Write.ensures ∙ ap (λ s. s ∷ []) (value_is _ _ _ refl c.in_ok-done-in-Write.ensures))))

pub returns-in-Cas : goal.returns-in-Cas
returns-in-Cas c = rw c.in-Cas.is c.swap.ensures

pub returns-in_err-done-in-Faa : goal.returns-in_err-done-in-Faa
returns-in_err-done-in-Faa c =
    let p = err_from_is_err_and c.from_residual-in_err-done-in-Faa.result c.from_residual-in_err-done-in-Faa.ensures.1 in
    rw (p.1, p.2, c.in-Faa.is) (no_value _ _ _ _ refl c.in_err-done-in-Faa.ensures)

pub returns-in_ok-done-in-Faa : goal.returns-in_ok-done-in-Faa
returns-in_ok-done-in-Faa c = rw c.in-Faa.is (then_value _ _ _ _ c.in_ok-done-in-Faa.ensures (done_as _ _ (c.only-in-Faa.ensures ∙ ap (λ s. s ∷ []) (value_is _ _ _ refl c.in_ok-done-in-Faa.ensures))))

pub returns-in_err-done-in-Dispose : goal.returns-in_err-done-in-Dispose
returns-in_err-done-in-Dispose c =
    let p = err_from_is_err_and c.from_residual-in_err-done-in-Dispose.result c.from_residual-in_err-done-in-Dispose.ensures.1 in
    rw (p.1, p.2) (no_memory _)

pub returns-in_ok-done-in-Dispose : goal.returns-in_ok-done-in-Dispose
returns-in_ok-done-in-Dispose c = rw c.in-Dispose.is (done_as _ _ (rw c.in_ok-done-in-Dispose.ensures at c.only-in-Dispose.ensures))
