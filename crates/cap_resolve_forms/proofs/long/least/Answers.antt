use Rattle.std.proofs.Common.{rules, get_or, arith, sym}
use Rattle.std.proofs.lemmas.Int.{to_z-of_z}
use mir.Val.{SFits}
use mir.Syntax.{w128}
use Rattle.cap_lin.proofs.Merge.{no_part, first-none, first-left, first-right, first-lt, first-gt, first-eq}
use Rattle.cap_resolve_forms.proofs.long.least.Goals as goal

pub returns-in-empty-right : goal.returns-in-empty-right
returns-in-empty-right c = sym (first-none _ _ (omega arith) (omega arith))

pub returns-in-len1-up-right : goal.returns-in-len1-up-right
returns-in-len1-up-right c =
    let g : SFits w128 (get_or c.args.right.now 0 no_part).1 = search rules in
    sym (first-right _ _ _ (omega arith) (omega arith) (to_z-of_z _ _ g))

pub returns-in-empty-right-2 : goal.returns-in-empty-right-2
returns-in-empty-right-2 c =
    let f : SFits w128 (get_or c.args.left.now 0 no_part).1 = search rules in
    sym (first-left _ _ _ (omega arith) (omega arith) (to_z-of_z _ _ f))

pub returns-then-x-y : goal.returns-then-x-y
returns-then-x-y c =
    let f : SFits w128 (get_or c.args.left.now 0 no_part).1 = search rules in
    sym (first-lt _ _ _ (omega arith) (omega arith) c.if-x-y.true (to_z-of_z _ _ f))

pub returns-then-y-x : goal.returns-then-y-x
returns-then-y-x c =
    let g : SFits w128 (get_or c.args.right.now 0 no_part).1 = search rules in
    sym (first-gt _ _ _ (omega arith) (omega arith) c.if-y-x.true (to_z-of_z _ _ g))

pub returns-else-y-x : goal.returns-else-y-x
returns-else-y-x c =
    let f : SFits w128 (get_or c.args.left.now 0 no_part).1 = search rules in
    let g : SFits w128 (get_or c.args.right.now 0 no_part).1 = search rules in
    sym (first-eq _ _ _ _ (omega arith) (omega arith) c.if-x-y.false c.if-y-x.false (to_z-of_z _ _ f) (to_z-of_z _ _ g))
