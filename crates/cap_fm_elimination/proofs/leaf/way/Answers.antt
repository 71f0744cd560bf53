use Rattle.std.proofs.Common.{◌≡◌, length, get_or, false, true, arith, ap, ◌∙◌}
use Rattle.std.specs.Prelude.{◌-◌}
use Rattle.std.proofs.lemmas.List.{length-set, length-replicate}
use Rattle.cap_fm_elimination.specs.declared.entry.Origin.TheVariants.{Given}
use Rattle.cap_fm_elimination.specs.Views.{origin_view}
use Rattle.cap_fm_elimination.specs.Way.{with_rows}
use Rattle.cap_fm_elimination.proofs.LeavesWay.{filled, begins, rows-below, lent, marked-long, goes-down-marked, goes-down-unmarked, way-is}
use Rattle.cap_fm_elimination.proofs.leaf.way.Goals as goal

pub loop-place-init : goal.loop-place-init
loop-place-init c =
    let f = filled _ _ _ _ c.in_ok-resize.ensures.items c.in_ok-way.ensures.items c.in_ok-way.ensures.len in
    record {
      long = length-set c.resize.new.self.items c.args.last true ∙ ap length f ∙ length-replicate (length c.args.history.now) false;
      marks = begins _ _ _ f;
    }

pub mark-requires : goal.mark-requires
mark-requires c = rows-below _ _ _ c.requires.history c.loop-place-test.true c.loop-place.auto.place (ap length c.deref_mut.ensures.value ∙ c.loop-place.invariant.long)

pub loop-place-preserved-then-index : goal.loop-place-preserved-then-index
loop-place-preserved-then-index c =
    let l : c.loop-place.way.len ≡ length c.loop-place.way.items = omega arith in
    let m : c.mark.new.way ≡ with_rows (origin_view (get_or c.args.history.now (c.loop-place.place - 1) (Given 0))) c.loop-place.way.items = c.mark.ensures ∙ ap (with_rows _) c.deref_mut.ensures.value in
    let n : length c.mark.new.way ≡ length c.loop-place.way.items = marked-long _ _ _ m in
    let g = lent c.loop-place.way.items c.mark.new.way _ l n in
    record {
      long = ap length g ∙ n ∙ c.loop-place.invariant.long;
      marks = rw g (goes-down-marked _ _ _ _ _ _ c.loop-place-test.true c.loop-place.auto.place c.loop-place.invariant.long c.index.ensures c.if-index.true m c.loop-place.invariant.marks);
    }

pub loop-place-preserved : goal.loop-place-preserved
loop-place-preserved c = record {
  long = c.loop-place.invariant.long;
  marks = goes-down-unmarked _ _ _ _ _ c.loop-place-test.true c.loop-place.auto.place c.loop-place.invariant.long c.index.ensures c.if-index.false c.loop-place.invariant.marks;
}

pub returns : goal.returns
returns c = way-is _ _ _ _ c.requires.history c.requires.last (omega arith) c.loop-place.invariant.marks
