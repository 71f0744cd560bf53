use Rattle.std.proofs.Common.{rules, ◌∙◌, ap}
use Rattle.std.specs.Prelude.{◌+ℤ◌}
use mir.Val.{SFits}
use mir.Syntax.{w128}
use Rattle.std.proofs.lemmas.Int.{to_z-of_z}
use Rattle.cap_machine.proofs.HeapLemmas.{absent_is}
use Rattle.cap_machine.proofs.heap.Heap.is_absent.Goals as goal

pub returns-in-Some : goal.returns-in-Some
returns-in-Some c =
    let f : SFits w128 c.from.result = search rules in
    let g : SFits w128 c.in-Some.address = search rules in
    let e = rw (to_z-of_z w128 _ c.ranges.base, to_z-of_z w128 _ f) at c.in-Some.ensures.1 in
    absent_is c.self.inside.cells _ _ _ c.contains_key.result c.contains_key.ensures (to_z-of_z w128 _ g ∙ (e ∙ ap (λ z. c.args.base +ℤ z) c.from.ensures)) c.self.view_is
