use Rattle.std.proofs.Common.{rules, ◌∙◌, sym, pos, slice_index_or}
use Rattle.std.proofs.lemmas.Int.{to_z-of_z}
use mir.Val.{SFits}
use mir.Syntax.{w128}
use Rattle.cap_fm_elimination.proofs.Pivots.{unit-found, unit-passed, unit-none}
use Rattle.cap_fm_elimination.proofs.equations.unit_variable.Goals as goal

pub returns-then-is_unit : goal.returns-then-is_unit
returns-then-is_unit c =
    let f : SFits w128 (slice_index_or c.args.parts.now c.loop-part.part-index (0, pos 0)).1 = search rules in
    let t = c.if-is_unit.ensures in
    sym (unit-found _ _ (0, pos 0) c.loop-part-test.true (sym (rw (to_z-of_z _ _ f) at t))) ∙ c.loop-part.invariant

pub loop-part-preserved : goal.loop-part-preserved
loop-part-preserved c =
    let f : SFits w128 (slice_index_or c.args.parts.now c.loop-part.part-index (0, pos 0)).1 = search rules in
    let t = c.if-is_unit.ensures in
    sym (unit-passed _ _ (0, pos 0) c.loop-part-test.true (sym (rw (to_z-of_z _ _ f) at t))) ∙ c.loop-part.invariant

pub returns : goal.returns
returns c = sym (unit-none _ _ c.loop-part-test.false) ∙ c.loop-part.invariant
