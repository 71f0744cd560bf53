use Rattle.std.proofs.Common.{refl, ◌∙◌}
use Rattle.std.proofs.lemmas.Result.{err_from_is_err_and}
use Rattle.cap_take_guards.specs.Views.{cut_view}
use Rattle.cap_take_guards.proofs.Indices.{first-wide, first-unproved, first-goes}
use Rattle.cap_take_guards.proofs.spans.first_index.Goals as goal

pub returns-in_err-next : goal.returns-in_err-next
returns-in_err-next c =
    let a = c.args in
    let p = err_from_is_err_and c.from_residual.result c.from_residual.ensures.1 in
    rw (p.1, p.2) (first-wide _ a.state.now a.env.now a.start.now a.end.now a.name _ c.in_err-next.ensures)

pub returns-in_err-prove_end : goal.returns-in_err-prove_end
returns-in_err-prove_end c =
    let a = c.args in
    let p = err_from_is_err_and c.from_residual-in_err-prove_end.result c.from_residual-in_err-prove_end.ensures.1 in
    let m = rw c.rows.ensures at c.in_err-prove_end.ensures in
    rw (p.1, p.2) (first-unproved _ a.state.now a.env.now a.start.now a.end.now a.name c.in_ok-next.next _ _ c.in_ok-next.ensures m)

pub returns : goal.returns
returns c =
    let a = c.args in
    let k = rw c.rows.ensures at c.in_ok-prove_end.ensures in
    first-goes (cut_view c.in_ok-naming.field-0) a.state.now a.env.now a.start.now a.end.now a.name c.in_ok-next.next _ _ c.in_ok-next.ensures k
    (c.in_ok-naming.ensures ∙ rw (c.in_ok-same.ensures, c.in_ok-last.ensures) refl)
