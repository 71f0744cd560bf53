use Rattle.std.proofs.Common.{rules}
use mir.Val.{SFits}
use mir.Syntax.{w128}
use Rattle.std.proofs.lemmas.Int.{to_z-of_z}
use Rattle.cap_machine.proofs.HeapLemmas.{top_none, top_some}
use Rattle.cap_machine.proofs.heap.Heap.top.Goals as goal

pub returns-in-None : goal.returns-in-None
returns-in-None c = top_none c.self.inside.cells _ (λ h. let e = c.in-None.ensures.variant.1 h in absurd (cc)) c.self.view_is

pub returns-in-Some : goal.returns-in-Some
returns-in-Some c =
    let f : SFits w128 c.in-Some.address.now = search rules in
    rw (to_z-of_z w128 _ f) (top_some c.self.inside.cells _ c.in-Some.address.now _ c.self.view_is c.in-Some.ensures.value c.in-Some.ensures.greatest)
