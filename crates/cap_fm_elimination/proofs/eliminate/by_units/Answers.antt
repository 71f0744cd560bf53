use Rattle.std.proofs.Common.{◌≡◌, ◌+◌, ◌-◌, suc, length, arith, subst, None}
use Rattle.std.proofs.lemmas.Result.{err_from_is_err_and}
use Rattle.cap_fm_spec.specs.Elimination.{by_units, unit_variable, first_pivot}
use Rattle.cap_fm_elimination.specs.Answers.{AllUnits, Same, IsPivotAt}
use Rattle.cap_fm_elimination.specs.Views.{stage_view, entries_view, entries_of}
use Rattle.cap_fm_elimination.proofs.Runs.{same-is, same-then, same-refl}
use Rattle.cap_fm_elimination.proofs.Terms.{long-of}
use Rattle.cap_fm_elimination.proofs.Walks.{reach-err, units-fail, units-stop, units-next, units-over, units-end, ends-done}
use Rattle.cap_fm_elimination.proofs.eliminate.by_units.Goals as goal
use Rattle.cap_fm_elimination.proofs.eliminate.by_units.Goals.{else-loop-turn-test, then-loop-turn-test+in-None}

pub loop-turn-init : goal.loop-turn-init
loop-turn-init c = λ inputs f.
    let s = c.args.stage.now in
    let rows = c.args.rows.items in
    let n = long-of s rows in
    let e : length (entries_of s rows) ≡ length rows - 0 = omega arith in
    (f, subst (λ n. Same (AllUnits (entries_of s rows) s) (by_units n (entries_view (entries_of s rows)) (stage_view s))) e (same-refl _))

pub returns-in_err-others-in-Some : goal.returns-in_err-others-in-Some
returns-in_err-others-in-Some c = λ inputs f.
    let i = c.loop-turn.invariant inputs f in
    let p = subst (λ ds. IsPivotAt unit_variable (entries_of c.loop-turn.stage ds) c.in-Some.pivot) c.deref.ensures.value c.in-Some.ensures.first in
    let k : length c.args.rows.items - c.loop-turn._turn ≡ suc (length c.args.rows.items - (c.loop-turn._turn + 1)) = omega arith in
    reach-err inputs c.by_equation.new.stage (AllUnits (entries_of c.args.stage.now c.args.rows.items) c.args.stage.now) c.from_residual.result c.in_err-others-in-Some.field-0.0 (err_from_is_err_and c.from_residual.result c.from_residual.ensures.1) (units-fail _ _ _ _ _ _ c.in_err-others-in-Some.field-0.0 i.1 k p.is (c.in_err-others-in-Some.ensures inputs p.before p.after p.equation i.0 p.rows_are p.place p.has))

pub returns-in-Contradiction : goal.returns-in-Contradiction
returns-in-Contradiction c = λ inputs f.
    let i = c.loop-turn.invariant inputs f in
    let p = subst (λ ds. IsPivotAt unit_variable (entries_of c.loop-turn.stage ds) c.in-Some.pivot) c.deref.ensures.value c.in-Some.ensures.first in
    let k : length c.args.rows.items - c.loop-turn._turn ≡ suc (length c.args.rows.items - (c.loop-turn._turn + 1)) = omega arith in
    let a = rw c.in-Contradiction.is at (c.in_ok-others-in-Some.ensures inputs p.before p.after p.equation i.0 p.rows_are p.place p.has) in
    (same-is _ _ _ _ i.1 (units-stop _ _ _ _ _ _ _ k p.is a.0), a.1)

pub loop-turn-preserved : goal.loop-turn-preserved
loop-turn-preserved c = λ inputs f.
    let i = c.loop-turn.invariant inputs f in
    let p = subst (λ ds. IsPivotAt unit_variable (entries_of c.loop-turn.stage ds) c.in-Some.pivot) c.deref.ensures.value c.in-Some.ensures.first in
    let k : length c.args.rows.items - c.loop-turn._turn ≡ suc (length c.args.rows.items - (c.loop-turn._turn + 1)) = omega arith in
    let a = rw c.in-Rows.is at (c.in_ok-others-in-Some.ensures inputs p.before p.after p.equation i.0 p.rows_are p.place p.has) in
    (a.1, same-then _ _ _ i.1 (units-next _ _ _ _ _ _ _ k p.is a.0))

pub returns : goal.returns
returns c = λ inputs f.
    let i = c.loop-turn.invariant inputs f in
    elim c.loop-turn-test.branch [
      | else-loop-turn-test w ↦ (units-over _ _ _ _ (omega arith) i.1, i.0)
      | then-loop-turn-test+in-None w ↦ (ends-done _ (by_units (length c.args.rows.items - c.loop-turn._turn) (entries_view (entries_of c.loop-turn.stage c.loop-turn.rows.items))) _ _ i.1 (units-end _ _ (subst (λ ds. first_pivot unit_variable (entries_view (entries_of c.loop-turn.stage ds)) ≡ None) w.deref.ensures.value w.in-None.ensures.first)), i.0)
    ]
