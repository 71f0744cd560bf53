use Rattle.std.proofs.Common.{rules, ◌<◌, ◌≤◌, length, get_or, arith, refl, ◌∙◌}
use Rattle.std.proofs.lemmas.Int.{to_z-of_z}
use mir.Val.{SFits}
use mir.Syntax.{w128}
use Rattle.cap_lin.proofs.Merge.{no_part}
use Rattle.cap_farkas.proofs.Sums.{stops_at_product, stops_at_sum, goes_on, adds, narrow, done}
use Rattle.cap_farkas.proofs.leaf.sum_of.Goals as goal

pub returns-in-None : goal.returns-in-None
returns-in-None c =
    let h : c.loop-entry.entry-index < length c.args.leaf.now = omega arith in
    let f : SFits w128 (get_or c.args.leaf.now c.loop-entry.entry-index no_part).1 = search rules in
    let g : SFits w128 c.part_at-part.result = search rules in
    stops_at_product _ _ _ _ _ _ _ _ h (to_z-of_z _ _ f) (to_z-of_z _ _ g ∙ c.part_at-part.ensures) c.in-None.ensures c.loop-entry.invariant.steps

pub returns-in-None-checked_add : goal.returns-in-None-checked_add
returns-in-None-checked_add c =
    let h : c.loop-entry.entry-index < length c.args.leaf.now = omega arith in
    let f : SFits w128 (get_or c.args.leaf.now c.loop-entry.entry-index no_part).1 = search rules in
    let g : SFits w128 c.part_at-part.result = search rules in
    let u : SFits w128 c.in-Some.product = search rules in
    let p = c.in-Some.ensures in
    stops_at_sum _ _ _ _ _ _ _ _ _ _ h (to_z-of_z _ _ f) (to_z-of_z _ _ g ∙ c.part_at-part.ensures) p.0 (to_z-of_z _ _ u ∙ p.1) refl c.in-None-checked_add.ensures c.loop-entry.invariant.steps

pub loop-entry-preserved : goal.loop-entry-preserved
loop-entry-preserved c =
    let h : c.loop-entry.entry-index < length c.args.leaf.now = omega arith in
    let f : SFits w128 (get_or c.args.leaf.now c.loop-entry.entry-index no_part).1 = search rules in
    let g : SFits w128 c.part_at-part.result = search rules in
    let u : SFits w128 c.in-Some.product = search rules in
    let v : SFits w128 c.in-Some-checked_add.next = search rules in
    let e = to_z-of_z _ _ f in
    let d = to_z-of_z _ _ g ∙ c.part_at-part.ensures in
    let p = c.in-Some.ensures in
    let n = c.in-Some-checked_add.ensures in
    let q = to_z-of_z _ _ u ∙ p.1 in
    let r = to_z-of_z _ _ v ∙ n.1 in
    record {
      steps = goes_on _ _ _ _ _ _ _ _ _ _ _ h e d p.0 q refl n.0 r c.loop-entry.invariant.steps;
      total = adds _ _ _ _ _ _ _ _ _ _ _ h e d q refl r c.loop-entry.invariant.total;
    }

pub returns : goal.returns
returns c =
    let h : length c.args.leaf.now ≤ c.loop-entry.entry-index = omega arith in
    (narrow _ _ _ _ _ _ h c.loop-entry.invariant.steps, done _ _ _ _ _ _ h c.loop-entry.invariant.total)
