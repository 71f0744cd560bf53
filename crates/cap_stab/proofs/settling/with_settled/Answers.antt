use Rattle.std.proofs.lemmas.Result.{err_from_is_err_and}
use Rattle.cap_lin.specs.declared.row.Sort.TheVariants.{Int}
use Rattle.cap_stab.proofs.Settled.{sort_facts, settled_fails}
use Rattle.cap_stab.proofs.settling.with_settled.Goals as goal

pub returns-in_err-later : goal.returns-in_err-later
returns-in_err-later c =
    let a = c.args in
    let p = err_from_is_err_and c.from_residual.result c.from_residual.ensures.1 in
    rw (p.1, p.2) (settled_fails a.state.now a.number a.fact.now a.named.now _ c.in_err-later.ensures.makes)

pub put_facts-requires : goal.put_facts-requires
put_facts-requires c = rw (sort_facts c.args.state.now c.with_sort.new.state Int c.in_ok-later.ensures.makes) c.requires
