use Rattle.std.proofs.Common.{◌∙◌, ap}
use Rattle.std.specs.FinMap.{insert}
use mir.Syntax.{w128}
use Rattle.std.proofs.lemmas.Int.{to_z-of_z}
use Rattle.cap_machine.proofs.HeapLemmas.{heap_put, insert-narrow, narrow, narrow_along}
use Rattle.cap_machine.proofs.heap.Heap.add.Goals as goal

pub invariant_of-self-2 : goal.invariant_of-self-2
invariant_of-self-2 c =
    let u = rw (to_z-of_z w128 _ c.ranges.address, to_z-of_z w128 _ c.ranges.value) at c.in_ok-insert.ensures.updates in
    narrow_along _ _ (heap_put c.self.inside.cells c.insert.new.self c.args.address c.args.value u) (insert-narrow _ c.args.address c.args.value c.self.invariant (narrow c.args.address c.ranges.address))

pub returns-clause-ok : goal.returns-clause-ok
returns-clause-ok c =
    let u = rw (to_z-of_z w128 _ c.ranges.address, to_z-of_z w128 _ c.ranges.value) at c.in_ok-insert.ensures.updates in
    heap_put c.self.inside.cells c.insert.new.self c.args.address c.args.value u ∙ ap (λ h. insert h c.args.address c.args.value) c.self.view_is
