use Rattle.std.proofs.Common.{rules, arith, to_z, of_z, ◌≡◌, ◌<◌, ◌≤◌, ◌+◌, ◌∷◌, length, get_or, min, ◌∙◌}
use Rattle.std.specs.Prelude.{IfSome}
use Rattle.std.proofs.lemmas.Int.{to_z-of_z}
use Rattle.std.proofs.lemmas.Result.{err_from_is_err_and}
use mir.Val.{SFits}
use mir.Syntax.{w128}
use Rattle.cap_lin.specs.Linear.{merged}
use Rattle.cap_lin.specs.Exact.{IsCombined}
use Rattle.cap_lin.proofs.Merge.{no_part, pair, starts-lt, starts-gt, starts-eq, shorter}
use Rattle.cap_lin.proofs.Combining.{stops, goes_on, adds, left-rest, right-rest}
use Rattle.cap_lin.proofs.term.append_combination.Goals as goal
use Rattle.cap_lin.proofs.term.append_combination.Goals.{then-loop-x-test+else-not-is_empty, else-loop-x-test, then-x-y, else-x-y+then-y-x, else-x-y+else-y-x, in-Some, in-None+in_ok-number-in-None}

pub returns-in_err-number-in-None : goal.returns-in_err-number-in-None
returns-in_err-number-in-None g c =
    let h : 1 ≤ length c.loop-x.left.now = search rules in
    let k : 1 ≤ length c.loop-x.right.now = search rules in
    let f : SFits w128 (get_or c.loop-x.left.now 0 no_part).1 = search rules in
    let i : SFits w128 (get_or c.loop-x.right.now 0 no_part).1 = search rules in
    let e = to_z-of_z _ _ f in
    let d = to_z-of_z _ _ i in
    let s : merged c.loop-x.left.now c.loop-x.right.now ≡ pair (min (get_or c.loop-x.left.now 0 no_part).0 (get_or c.loop-x.right.now 0 no_part).0) (to_z w128 c.if-x-y.m-bits) (to_z w128 c.if-x-y.n-bits) ∷ merged c.if-x-y.left.now c.if-x-y.right.now = elim c.if-x-y.branch [
      | then-x-y w ↦ rw (w.left-is, w.right-is, w.after_first-left.ensures) (starts-lt _ _ _ _ _ h k w.if-x-y.true (omega arith) (w.m-is ∙ e) w.n-is)
      | else-x-y+then-y-x w ↦ rw (w.left-is, w.right-is, w.after_first-right.ensures) (starts-gt _ _ _ _ _ h k w.if-y-x.true (omega arith) w.m-is (w.n-is ∙ d))
      | else-x-y+else-y-x w ↦ rw (w.left-is, w.right-is, w.after_first-left-else-y-x.ensures, w.after_first-right-else-y-x.ensures) (starts-eq _ _ _ _ _ h k w.if-x-y.false w.if-y-x.false (omega arith) (w.m-is ∙ e) (w.n-is ∙ d))
    ] in
    let x = to_z-of_z _ _ c.ranges.a in
    let y = to_z-of_z _ _ c.ranges.b in
    let p = err_from_is_err_and c.from_residual.result c.from_residual.ensures.1 in
    rw (p.1, p.2) (stops _ _ _ _ _ _ _ _ _ s x y c.in_err-number-in-None.ensures (rw (x, y) at c.loop-x.invariant.steps))

pub loop-x-smaller : goal.loop-x-smaller
loop-x-smaller g c =
    let h : 1 ≤ length c.loop-x.left.now = search rules in
    let k : 1 ≤ length c.loop-x.right.now = search rules in
    let i = shorter c.loop-x.left.now h in
    let j = shorter c.loop-x.right.now k in
    let s : length c.if-x-y.left.now + length c.if-x-y.right.now < length c.loop-x.left.now + length c.loop-x.right.now = elim c.if-x-y.branch [
      | then-x-y w ↦ rw (w.left-is, w.right-is, w.after_first-left.ensures) (omega (arith, i, j))
      | else-x-y+then-y-x w ↦ rw (w.left-is, w.right-is, w.after_first-right.ensures) (omega (arith, i, j))
      | else-x-y+else-y-x w ↦ rw (w.left-is, w.right-is, w.after_first-left-else-y-x.ensures, w.after_first-right-else-y-x.ensures) (omega (arith, i, j))
    ] in
    s

pub loop-x-preserved : goal.loop-x-preserved
loop-x-preserved g c =
    let h : 1 ≤ length c.loop-x.left.now = search rules in
    let k : 1 ≤ length c.loop-x.right.now = search rules in
    let f : SFits w128 (get_or c.loop-x.left.now 0 no_part).1 = search rules in
    let i : SFits w128 (get_or c.loop-x.right.now 0 no_part).1 = search rules in
    let e = to_z-of_z _ _ f in
    let d = to_z-of_z _ _ i in
    let s : merged c.loop-x.left.now c.loop-x.right.now ≡ pair (min (get_or c.loop-x.left.now 0 no_part).0 (get_or c.loop-x.right.now 0 no_part).0) (to_z w128 c.if-x-y.m-bits) (to_z w128 c.if-x-y.n-bits) ∷ merged c.if-x-y.left.now c.if-x-y.right.now = elim c.if-x-y.branch [
      | then-x-y w ↦ rw (w.left-is, w.right-is, w.after_first-left.ensures) (starts-lt _ _ _ _ _ h k w.if-x-y.true (omega arith) (w.m-is ∙ e) w.n-is)
      | else-x-y+then-y-x w ↦ rw (w.left-is, w.right-is, w.after_first-right.ensures) (starts-gt _ _ _ _ _ h k w.if-y-x.true (omega arith) w.m-is (w.n-is ∙ d))
      | else-x-y+else-y-x w ↦ rw (w.left-is, w.right-is, w.after_first-left-else-y-x.ensures, w.after_first-right-else-y-x.ensures) (starts-eq _ _ _ _ _ h k w.if-x-y.false w.if-y-x.false (omega arith) (w.m-is ∙ e) (w.n-is ∙ d))
    ] in
    let t : IfSome c.if-x-y.short (IsCombined (to_z w128 (of_z w128 c.args.a)) (to_z w128 c.if-x-y.m-bits) (to_z w128 (of_z w128 c.args.b)) (to_z w128 c.if-x-y.n-bits)) = elim c.if-x-y.branch [
      | then-x-y w ↦ rw (w.short-is, w.m-is, w.n-is) w.short_combined-short.ensures
      | else-x-y+then-y-x w ↦ rw (w.short-is, w.m-is, w.n-is) w.short_combined.ensures
      | else-x-y+else-y-x w ↦ rw (w.short-is, w.m-is, w.n-is) w.short_combined-else-y-x.ensures
    ] in
    let r : IsCombined (to_z w128 (of_z w128 c.args.a)) (to_z w128 c.if-x-y.m-bits) (to_z w128 (of_z w128 c.args.b)) (to_z w128 c.if-x-y.n-bits) (to_z w128 c.match-short.number-bits) = elim c.match-short.branch [
      | in-Some w ↦
          let u : SFits w128 w.in-Some.number = search rules in
          let v = rw w.in-Some.is at t in
          (v.0, w.number-is ∙ to_z-of_z _ _ u ∙ v.1)
      | in-None+in_ok-number-in-None w ↦
          let u : SFits w128 w.in_ok-number-in-None.number = search rules in
          (w.in_ok-number-in-None.ensures.0, w.number-is ∙ to_z-of_z _ _ u ∙ w.in_ok-number-in-None.ensures.1)
    ] in
    record {
      steps = goes_on _ _ _ _ _ _ _ s r c.loop-x.invariant.steps;
      parts = adds _ _ _ _ _ _ _ _ _ _ s r (omega arith) c.in_ok-put.ensures c.loop-x.invariant.parts;
    }

pub returns-then-is_empty : goal.returns-then-is_empty
returns-then-is_empty g c =
    let h : length c.loop-x.right.now < 1 = search rules in
    let x = to_z-of_z _ _ c.ranges.a in
    let y = to_z-of_z _ _ c.ranges.b in
    left-rest _ _ _ _ _ _ _ _ _ _ h x c.append_multiples.ensures (rw (x, y) at c.loop-x.invariant.steps) (rw (x, y) at c.loop-x.invariant.parts)

pub returns-else-is_empty : goal.returns-else-is_empty
returns-else-is_empty g c =
    let h : length c.loop-x.left.now < 1 = elim c.loop-x-test.branch [
      | then-loop-x-test+else-not-is_empty w ↦ let l : length c.loop-x.right.now < 1 = search rules in let m : 1 ≤ length c.loop-x.right.now = search rules in absurd (omega (arith, l, m))
      | else-loop-x-test w ↦ search rules
    ] in
    let x = to_z-of_z _ _ c.ranges.a in
    let y = to_z-of_z _ _ c.ranges.b in
    right-rest _ _ _ _ _ _ _ _ _ _ h y c.append_multiples-else-is_empty.ensures (rw (x, y) at c.loop-x.invariant.steps) (rw (x, y) at c.loop-x.invariant.parts)
