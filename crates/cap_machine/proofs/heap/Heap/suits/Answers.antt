use Rattle.std.proofs.Common.{ap, ◌∙◌}
use Rattle.cap_prog.specs.Program.{alloc}
use Rattle.cap_prog.specs.Views.{act_view}
use Rattle.cap_prog.proofs.Views.{view-Alloc}
use Rattle.cap_machine.proofs.ReadyLemmas.{suits_as}
use Rattle.cap_machine.proofs.heap.Heap.suits.Goals as goal

pub returns-in-Alloc : goal.returns-in-Alloc
returns-in-Alloc c =
    suits_as _ _ (alloc c.in-Alloc.field-0 c.in-Alloc.count) _ _ (ap act_view c.in-Alloc.is ∙ view-Alloc c.in-Alloc.field-0 c.in-Alloc.count) (c.may_be_at.ensures c.in-Alloc.field-0)
