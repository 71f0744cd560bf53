use Rattle.std.proofs.Common.{◌∙◌, ap}
use Rattle.std.specs.FinMap.{remove}
use mir.Syntax.{w128}
use Rattle.std.proofs.lemmas.Int.{to_z-of_z}
use Rattle.cap_machine.proofs.HeapLemmas.{heap_cut, remove-narrow, narrow_along}
use Rattle.cap_machine.proofs.heap.Heap.remove.Goals as goal

pub invariant_of-self : goal.invariant_of-self
invariant_of-self c =
    let u = rw (to_z-of_z w128 _ c.ranges.address) at c.remove.ensures.updates in
    narrow_along _ _ (heap_cut c.self.inside.cells c.remove.new.self c.args.address u) (remove-narrow _ c.args.address c.self.invariant)

pub returns : goal.returns
returns c =
    let u = rw (to_z-of_z w128 _ c.ranges.address) at c.remove.ensures.updates in
    heap_cut c.self.inside.cells c.remove.new.self c.args.address u ∙ ap (λ h. remove h c.args.address) c.self.view_is
