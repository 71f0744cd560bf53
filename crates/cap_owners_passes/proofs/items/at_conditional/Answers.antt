use Rattle.cap_prog.specs.Views.{items_view}
use Rattle.cap_owners_passes.proofs.Folds.{choose-seen}
use Rattle.cap_owners_passes.proofs.items.at_conditional.Goals as goal

pub returns-in-Choose : goal.returns-in-Choose
returns-in-Choose c = λ p more e left n t w last names.
    let k = c.in-Choose in
    rw (k.is, choose-seen k.comparison k.holding k.field-2) (c.take_side.ensures p (items_view k.field-2) more e left n t w last names)
