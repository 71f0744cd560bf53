use Rattle.std.proofs.Common.{arith, ◌<◌, ◌≤◌, length}
use Rattle.std.proofs.lemmas.List.{length-map}
use Rattle.std.proofs.lemmas.Result.{err_from_is_err_and}
use Rattle.cap_rules_steps.proofs.Listing.{claims-first}
use Rattle.cap_open_acts.specs.Views.{rival_view, rivals_view}
use Rattle.cap_open_acts.proofs.Members.{member-seen}
use Rattle.cap_open_acts.proofs.Marks.{marks-next, marks-fail, marks-short, marks-long, marks-end}
use Rattle.cap_open_acts.proofs.marking.with_marks.Goals as goal

pub loop-place-init : goal.loop-place-init
loop-place-init c = claims-first _ _

pub returns-then-place-marks : goal.returns-then-place-marks
returns-then-place-marks c =
    let h : c.loop-place.place < length (rivals_view c.args.pairs.now) = rw (length-map c.args.pairs.now rival_view) (omega arith) in
    marks-short _ _ _ c.loop-place.place _ _ _ h (omega arith) c.loop-place.invariant

pub returns-in_err-with_mark : goal.returns-in_err-with_mark
returns-in_err-with_mark c =
    let p = err_from_is_err_and c.from_residual.result c.from_residual.ensures.1 in
    let h : c.loop-place.place < length (rivals_view c.args.pairs.now) = rw (length-map c.args.pairs.now rival_view) (omega arith) in
    let e = member-seen rival_view c.args.pairs.now c.loop-place.place c.index-pairs-place.result (omega arith) c.index-pairs-place.is in
    rw (p.1, p.2) (marks-fail _ _ _ c.loop-place.place _ _ _ _ _ _ _ h e (omega arith) c.in_err-with_mark.ensures c.loop-place.invariant)

pub loop-place-preserved : goal.loop-place-preserved
loop-place-preserved c =
    let h : c.loop-place.place < length (rivals_view c.args.pairs.now) = rw (length-map c.args.pairs.now rival_view) (omega arith) in
    let e = member-seen rival_view c.args.pairs.now c.loop-place.place c.index-pairs-place.result (omega arith) c.index-pairs-place.is in
    marks-next _ _ _ _ c.loop-place.place _ _ _ _ _ _ h e (omega arith) c.in_ok-with_mark.ensures c.loop-place.invariant

pub returns-then-pairs-marks : goal.returns-then-pairs-marks
returns-then-pairs-marks c =
    let h : length (rivals_view c.args.pairs.now) ≤ c.loop-place.place = rw (length-map c.args.pairs.now rival_view) (omega arith) in
    marks-long _ _ _ c.loop-place.place _ _ _ h (omega arith) c.loop-place.invariant

pub returns : goal.returns
returns c =
    let h : length (rivals_view c.args.pairs.now) ≤ c.loop-place.place = rw (length-map c.args.pairs.now rival_view) (omega arith) in
    marks-end _ _ _ c.loop-place.place _ _ _ h (omega arith) c.loop-place.invariant
