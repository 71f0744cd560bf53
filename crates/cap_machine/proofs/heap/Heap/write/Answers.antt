use mir.Syntax.{w128}
use Rattle.std.proofs.lemmas.Int.{to_z-of_z}
use Rattle.cap_machine.proofs.HeapLemmas.{put_there, insert-narrow, narrow, narrow_along, now_narrow}
use Rattle.cap_machine.proofs.heap.Heap.write.Goals as goal

pub invariant_of-self : goal.invariant_of-self
invariant_of-self c =
    let u = rw (to_z-of_z w128 _ c.ranges.address, to_z-of_z w128 _ c.ranges.value) at c.insert.ensures.updates in
    let a = rw (to_z-of_z w128 _ c.ranges.address) at c.insert.ensures.absent in
    narrow_along _ _ (put_there c.insert.result c.self.inside.cells c.insert.new.self c.args.self.now c.args.address c.args.value u a c.self.view_is c.requires) (insert-narrow _ c.args.address c.args.value (now_narrow _ _ c.self.view_is c.self.invariant) (narrow c.args.address c.ranges.address))

pub returns : goal.returns
returns c =
    let u = rw (to_z-of_z w128 _ c.ranges.address, to_z-of_z w128 _ c.ranges.value) at c.insert.ensures.updates in
    let a = rw (to_z-of_z w128 _ c.ranges.address) at c.insert.ensures.absent in
    put_there c.insert.result c.self.inside.cells c.insert.new.self c.args.self.now c.args.address c.args.value u a c.self.view_is c.requires
