use Rattle.std.proofs.Common.{rules, ◌∙◌, ap, ◌<◌, ◌-◌, arith}
use Rattle.std.specs.Prelude.{pos, ◌+ℤ◌}
use Rattle.std.specs.FinMap.{insert, remove}
use mir.Val.{SFits}
use mir.Syntax.{w128}
use Rattle.std.proofs.lemmas.Int.{to_z-of_z}
use Rattle.cap_machine.specs.Machine.{are_free}
use Rattle.cap_machine.proofs.HeapLemmas.{free_behind, free_front, fits_below, narrow, remove-insert, sum_is}
use Rattle.cap_machine.proofs.heap.Heap.+allocate.Goals as goal

pub allocate-requires : goal.allocate-requires
allocate-requires t c =
    let some : 0 < c.args.count = omega arith in
    let f : SFits w128 c.from.result = search rules in
    let e = c.in_ok-add.ensures.ok ∙ ap (λ z. insert c.args.self.now z (pos 0)) (sum_is c.args.base c.from.result (c.args.count - 1) c.ranges.base f c.from.ensures (c.requires.narrow some)) in
    let free = (free_front c.args.self.now c.args.base c.args.count some c.requires.free).0 in
    rw (to_z-of_z w128 _ c.ranges.base) (
      omega arith,
      (
        ap (λ h. are_free h c.args.base (c.args.count - 1)) e ∙ free_behind c.args.self.now c.args.base (c.args.count - 1) (c.args.count - 1) (omega arith) free,
        λ l. fits_below c.args.base (c.args.count - 1 - 1) (c.args.count - 1) (narrow c.args.base c.ranges.base) (omega arith) (c.requires.narrow some),
      ),
    )

pub returns-in-Err-clause-err : goal.returns-in-Err-clause-err
returns-in-Err-clause-err t c =
    let some : 0 < c.args.count = omega arith in
    let f : SFits w128 c.from.result = search rules in
    let s = sum_is c.args.base c.from.result (c.args.count - 1) c.ranges.base f c.from.ensures (c.requires.narrow some) in
    let e = c.in_ok-add.ensures.ok ∙ ap (λ z. insert c.args.self.now z (pos 0)) s in
    let x = c.remove.ensures ∙ ap (λ z. remove c.allocate.new.self z) s in
    x ∙ (ap (λ h. remove h (c.args.base +ℤ pos (c.args.count - 1))) (c.in-Err.ensures.err ∙ e) ∙ remove-insert c.args.self.now (c.args.base +ℤ pos (c.args.count - 1)) (pos 0) (free_front c.args.self.now c.args.base c.args.count some c.requires.free).1)
