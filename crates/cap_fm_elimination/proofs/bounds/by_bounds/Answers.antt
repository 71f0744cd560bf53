use Rattle.std.proofs.Common.{◌∙◌, List, get_or, subst, sym, ap}
use Rattle.std.proofs.lemmas.Result.{err_from_is_err_and}
use Rattle.cap_fm_spec.specs.Runs as plain
use Rattle.cap_fm_spec.specs.Runs.{Run, going, contradiction}
use Rattle.cap_fm_elimination.specs.Views.{stage_view, entries_view, entry_of, entries_of, false_view, lacking_rows, upper_rows, lower_rows, IsStageOf, IsLast, Grows}
use Rattle.cap_fm_elimination.specs.Answers.{Explains, Is}
use Rattle.cap_fm_elimination.proofs.Terms.{no_row, entry-in, below-of, past-of, same-entry, same-entries, numbered-now, numbered-all, entries-by}
use Rattle.cap_fm_elimination.proofs.Pairs.{each-by, bounds-start, bounds-next, bounds-more, bounds-false, bounds-fails, bounds-end}
use Rattle.cap_fm_elimination.proofs.bounds.by_bounds.Goals as goal

pub loop-upper-init : goal.loop-upper-init
loop-upper-init c = λ inputs f.
    let x = c.args.variable in
    let s = c.args.stage.now in
    let now = c.leave_all.new.stage in
    let parted = c.in_ok-without.field-0 in
    let l = (rw c.deref.ensures.value at c.leave_all.ensures) inputs f in
    let e = entries-by s now c.args.rows.items l.same in
    bounds-start inputs x s now (entries_of s c.args.rows.items) (entries_of now parted.without.items) (entries_of s c.deref-upper-items.result.now) (entries_of s parted.lowers.items) f l
    (c.in_ok-without.ensures.without ∙ ap (lacking_rows x) e)
    (ap (entries_of s) c.deref-upper-items.ensures.value ∙ sym (entries-by s now parted.uppers.items l.same) ∙ c.in_ok-without.ensures.uppers ∙ ap (upper_rows x) e)
    (sym (entries-by s now parted.lowers.items l.same) ∙ c.in_ok-without.ensures.lowers ∙ ap (lower_rows x) e)

pub returns-in_err-row : goal.returns-in_err-row
returns-in_err-row c = λ inputs f.
    let x = c.args.variable in
    let s = c.args.stage.now in
    let now = c.loop-upper.stage in
    let rows = entries_of s c.args.rows.items in
    let held = entries_of now c.loop-upper.kept.items in
    let above = entries_of s c.deref-upper-items.result.now in
    let below = entries_of s c.in_ok-without.field-0.lowers.items in
    let i = c.loop-upper.upper-index in
    let item = get_or c.deref-upper-items.result.now i no_row in
    let upper = entry_of s item in
    let h = bounds-next inputs x s now rows held above below i upper (below-of s c.deref-upper-items.result.now i c.loop-upper-test.true) (entry-in s c.deref-upper-items.result.now i c.loop-upper-test.true) (c.loop-upper.invariant inputs f) in
    let u = same-entry s now item h.above_numbered.0 in
    let v = same-entries s now c.in_ok-without.field-0.lowers.items h.below_numbered in
    let p = numbered-now s now item h.above_numbered.0 in
    let q = numbered-all s now c.in_ok-without.field-0.lowers.items h.below_numbered in
    let w = each-by x held upper (entry_of now item) below (entries_of now c.in_ok-without.field-0.lowers.items) (stage_view now) u v in
    let d = subst (λ (r : Run (List plain.Entry)). Explains c.in_err-row.field-0.0 r.events) w ((rw c.deref-in-loop-upper.ensures.value at c.in_err-row.ensures) inputs h.fits p q) in
    let r = err_from_is_err_and c.from_residual-in_err-row.result c.from_residual-in_err-row.ensures.1 in
    rw (r.1, r.2) (bounds-fails inputs x s now rows held _ below upper c.in_err-row.field-0.0 h d)

pub returns-in-Some : goal.returns-in-Some
returns-in-Some c = λ inputs f.
    let x = c.args.variable in
    let s = c.args.stage.now in
    let now = c.loop-upper.stage in
    let rows = entries_of s c.args.rows.items in
    let held = entries_of now c.loop-upper.kept.items in
    let above = entries_of s c.deref-upper-items.result.now in
    let below = entries_of s c.in_ok-without.field-0.lowers.items in
    let i = c.loop-upper.upper-index in
    let item = get_or c.deref-upper-items.result.now i no_row in
    let upper = entry_of s item in
    let h = bounds-next inputs x s now rows held above below i upper (below-of s c.deref-upper-items.result.now i c.loop-upper-test.true) (entry-in s c.deref-upper-items.result.now i c.loop-upper-test.true) (c.loop-upper.invariant inputs f) in
    let u = same-entry s now item h.above_numbered.0 in
    let v = same-entries s now c.in_ok-without.field-0.lowers.items h.below_numbered in
    let p = numbered-now s now item h.above_numbered.0 in
    let q = numbered-all s now c.in_ok-without.field-0.lowers.items h.below_numbered in
    let new = c.combine_each.new.stage in
    let w = each-by x held upper (entry_of now item) below (entries_of now c.in_ok-without.field-0.lowers.items) (stage_view now) u v in
    let d = subst (λ r. Is (contradiction (false_view c.in-Some.row)) (stage_view new) r × IsLast inputs new c.in-Some.row × Grows now new) w ((rw c.in-Some.is at (rw c.deref-in-loop-upper.ensures.value at c.in_ok-row.ensures)) inputs h.fits p q) in
    (bounds-false inputs x s now c.combine_each.new.stage rows held _ below upper c.in-Some.row h d.0, d.1)

pub loop-upper-preserved : goal.loop-upper-preserved
loop-upper-preserved c = λ inputs f.
    let x = c.args.variable in
    let s = c.args.stage.now in
    let now = c.loop-upper.stage in
    let rows = entries_of s c.args.rows.items in
    let held = entries_of now c.loop-upper.kept.items in
    let above = entries_of s c.deref-upper-items.result.now in
    let below = entries_of s c.in_ok-without.field-0.lowers.items in
    let i = c.loop-upper.upper-index in
    let item = get_or c.deref-upper-items.result.now i no_row in
    let upper = entry_of s item in
    let h = bounds-next inputs x s now rows held above below i upper (below-of s c.deref-upper-items.result.now i c.loop-upper-test.true) (entry-in s c.deref-upper-items.result.now i c.loop-upper-test.true) (c.loop-upper.invariant inputs f) in
    let u = same-entry s now item h.above_numbered.0 in
    let v = same-entries s now c.in_ok-without.field-0.lowers.items h.below_numbered in
    let p = numbered-now s now item h.above_numbered.0 in
    let q = numbered-all s now c.in_ok-without.field-0.lowers.items h.below_numbered in
    let new = c.combine_each.new.stage in
    let more = entries_of new c.combine_each.new.kept.items in
    let w = each-by x held upper (entry_of now item) below (entries_of now c.in_ok-without.field-0.lowers.items) (stage_view now) u v in
    let d = subst (λ r. Is (going (entries_view more)) (stage_view new) r × IsStageOf inputs new more × Grows now new) w ((rw c.in_default.is at (rw c.deref-in-loop-upper.ensures.value at c.in_ok-row.ensures)) inputs h.fits p q) in
    bounds-more inputs x s now new rows held more _ below upper h d.0 d.1 d.2

pub returns : goal.returns
returns c = λ inputs f.
    let s = c.args.stage.now in
    bounds-end inputs c.args.variable s c.loop-upper.stage (entries_of s c.args.rows.items) (entries_of c.loop-upper.stage c.loop-upper.kept.items) (entries_of s c.deref-upper-items.result.now) (entries_of s c.in_ok-without.field-0.lowers.items) c.loop-upper.upper-index (past-of s c.deref-upper-items.result.now _ c.loop-upper-test.false) (c.loop-upper.invariant inputs f)
