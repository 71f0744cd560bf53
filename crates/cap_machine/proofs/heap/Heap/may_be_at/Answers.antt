use Rattle.std.proofs.Common.{rules}
use mir.Val.{SFits}
use mir.Syntax.{w128}
use Rattle.std.proofs.lemmas.Int.{to_z-of_z}
use Rattle.cap_machine.proofs.ReadyLemmas.{base_given, int_above}
use Rattle.cap_machine.proofs.heap.Heap.may_be_at.Goals as goal

pub returns-then-base-ge1 : goal.returns-then-base-ge1
returns-then-base-ge1 c x =
    let f : SFits w128 c.in-Some.base = search rules in
    let e = rw (to_z-of_z w128 _ f) at c.is_free.ensures in
    let l = rw (to_z-of_z w128 _ f) at c.if-base-ge1.true in
    base_given _ x c.args.count _ c.in-Some.base _ c.in-Some.is (int_above _ l) e
