use Rattle.std.proofs.Common.{rules, arith, ◌++◌, ◌<◌, ◌≤◌, length, get_or, ◌∙◌}
use Rattle.std.proofs.lemmas.Int.{to_z-of_z}
use Rattle.std.proofs.lemmas.List.{get_or_default}
use Rattle.std.proofs.lemmas.Result.{err_from_is_err_and}
use mir.Val.{SFits}
use mir.Syntax.{w128}
use Rattle.cap_lin.proofs.Merge.{no_part}
use Rattle.cap_farkas.specs.Farkas.{no_row}
use Rattle.cap_fm_elimination.proofs.LeavesSteps.{check-stops, check-goes_on, check-narrow}
use Rattle.cap_fm_elimination.proofs.leaf.checked.Goals as goal

pub returns-in_err-sum : goal.returns-in_err-sum
returns-in_err-sum c =
    let h : c.loop-entry.entry-index < length c.parts-parts.result.now = omega arith in
    let f : SFits w128 (get_or c.parts-parts.result.now c.loop-entry.entry-index no_part).1 = search rules in
    let b : (get_or c.parts-parts.result.now c.loop-entry.entry-index no_part).0 < length (c.args.rows.now ++ c.args.more.now) = search rules in
    let p = err_from_is_err_and c.from_residual.result c.from_residual.ensures.1 in
    rw (p.1, p.2, ← c.parts-parts.ensures.parts) (check-stops _ _ _ _ _ _ _ _ h (to_z-of_z _ _ f) (c.numbered_row-row.ensures ∙ get_or_default _ _ _ no_row b) c.in_err-sum.ensures.exact c.loop-entry.invariant)

pub loop-entry-preserved : goal.loop-entry-preserved
loop-entry-preserved c =
    let h : c.loop-entry.entry-index < length c.parts-parts.result.now = omega arith in
    let f : SFits w128 (get_or c.parts-parts.result.now c.loop-entry.entry-index no_part).1 = search rules in
    let b : (get_or c.parts-parts.result.now c.loop-entry.entry-index no_part).0 < length (c.args.rows.now ++ c.args.more.now) = search rules in
    check-goes_on _ _ _ _ _ _ _ _ h (to_z-of_z _ _ f) (c.numbered_row-row.ensures ∙ get_or_default _ _ _ no_row b) c.in_ok-sum.ensures.exact.0 c.in_ok-sum.ensures.exact.1 c.loop-entry.invariant

pub returns : goal.returns
returns c =
    let h : length c.parts-parts.result.now ≤ c.loop-entry.entry-index = omega arith in
    let s = c.parts-parts.ensures.parts in
    (rw (← s) (check-narrow _ _ _ _ _ h c.loop-entry.invariant), c.new.ensures ∙ c.in_ok-from_slice.ensures.items ∙ s)
