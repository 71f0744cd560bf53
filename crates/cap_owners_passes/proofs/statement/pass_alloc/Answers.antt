use Rattle.cap_owners_passes.proofs.Folds.{alloc-seen}
use Rattle.cap_owners_passes.proofs.statement.pass_alloc.Goals as goal

pub returns-in-Alloc : goal.returns-in-Alloc
returns-in-Alloc c = λ s.
    let k = c.in-Alloc in
    rw (k.is, alloc-seen k.field-0 k.field-1) (c.pass_base.ensures s k.field-0 k.field-1)
