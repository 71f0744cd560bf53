use Rattle.std.proofs.Common.{rules, ◌∙◌, ap, ◌<◌, length, get_or, arith}
use Rattle.std.specs.FinMap.{insert}
use mir.Val.{SFits}
use mir.Syntax.{w128}
use Rattle.std.proofs.lemmas.Int.{to_z-of_z}
use Rattle.cap_machine.proofs.HeapLemmas.{empty-narrow, next_cell, no_cell}
use Rattle.cap_machine.proofs.heap.Heap.of.Goals as goal

pub invariant_of-heap : goal.invariant_of-heap
invariant_of-heap c = empty-narrow _ c.new.ensures.empty

pub loop-cell-preserved : goal.loop-cell-preserved
loop-cell-preserved c =
    let h : c.loop-cell.cell-index < length c.args.cells.now = omega arith in
    let f : SFits w128 (get_or c.args.cells.now c.loop-cell.cell-index no_cell).0 = search rules in
    let g : SFits w128 (get_or c.args.cells.now c.loop-cell.cell-index no_cell).1 = search rules in
    let e = rw (to_z-of_z w128 _ f, to_z-of_z w128 _ g) at c.in_ok-add.ensures.ok in
    e ∙ (ap (λ m. insert m (get_or c.args.cells.now c.loop-cell.cell-index no_cell).0 (get_or c.args.cells.now c.loop-cell.cell-index no_cell).1) c.loop-cell.invariant ∙ next_cell _ c.args.cells.now c.loop-cell.cell-index no_cell c.requires h)
