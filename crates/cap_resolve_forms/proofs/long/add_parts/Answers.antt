use Rattle.std.proofs.Common.{rules, ◌≡◌, ◌∙◌, sym, Some, None}
use Rattle.std.specs.Prelude.{slice_get}
use Rattle.std.proofs.lemmas.Int.{to_z-of_z}
use Rattle.std.proofs.lemmas.Result.{err_from_is_err_and}
use mir.Val.{SFits}
use mir.Syntax.{w128}
use Rattle.cap_lin.specs.Linear.{merged}
use Rattle.cap_lin.proofs.Merge.{next, pair}
use Rattle.cap_lin.proofs.Sums.{stops, goes_on, adds, narrow, done}
use Rattle.cap_resolve_forms.proofs.long.add_parts.Goals as goal

pub returns-in_err-coefficient : goal.returns-in_err-coefficient
returns-in_err-coefficient c =
    let s : slice_get (merged c.loop-pair.left.now c.loop-pair.right.now) 0 ≡ Some (pair c.in-Some.pair.variable c.in-Some.pair.left c.in-Some.pair.right) = c.in-Some.ensures in
    let f : SFits w128 c.in-Some.pair.left = search rules in
    let g : SFits w128 c.in-Some.pair.right = search rules in
    let p = err_from_is_err_and c.from_residual-in_err-coefficient.result c.from_residual-in_err-coefficient.ensures.1 in
    rw (p.1, p.2) (stops _ _ _ _ _ _ _ s (to_z-of_z _ _ f) (to_z-of_z _ _ g) c.in_err-coefficient.ensures c.loop-pair.invariant.steps)

pub loop-pair-smaller : goal.loop-pair-smaller
loop-pair-smaller c =
    let s : slice_get (merged c.loop-pair.left.now c.loop-pair.right.now) 0 ≡ Some (pair c.in-Some.pair.variable c.in-Some.pair.left c.in-Some.pair.right) = c.in-Some.ensures in
    rw (c.behind-left.ensures, c.behind-right.ensures) (next _ _ _ s).shorter

pub loop-pair-preserved : goal.loop-pair-preserved
loop-pair-preserved c =
    let s : slice_get (merged c.loop-pair.left.now c.loop-pair.right.now) 0 ≡ Some (pair c.in-Some.pair.variable c.in-Some.pair.left c.in-Some.pair.right) = c.in-Some.ensures in
    let f : SFits w128 c.in-Some.pair.left = search rules in
    let g : SFits w128 c.in-Some.pair.right = search rules in
    let u : SFits w128 c.in_ok-coefficient.coefficient = search rules in
    let e = to_z-of_z _ _ f in
    let d = to_z-of_z _ _ g in
    let r = to_z-of_z _ _ u in
    record {
      steps = rw (c.behind-left.ensures, c.behind-right.ensures) (goes_on _ _ _ _ _ _ s e d c.in_ok-coefficient.ensures.0 c.loop-pair.invariant.steps);
      parts = rw (c.behind-left.ensures, c.behind-right.ensures) (adds _ _ _ _ _ _ _ _ _ s e d (r ∙ c.in_ok-coefficient.ensures.1) c.in_ok-put.ensures c.loop-pair.invariant.parts);
    }

pub returns : goal.returns
returns c =
    let s : slice_get (merged c.loop-pair.left.now c.loop-pair.right.now) 0 ≡ None = c.in_default.ensures in
    (narrow _ _ _ s c.loop-pair.invariant.steps, done _ _ _ _ s c.loop-pair.invariant.parts)
