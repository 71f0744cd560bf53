use Rattle.std.proofs.Common.{◌≡◌, [], refl, true, false, subst, sym, ap, ◌∙◌, to_z, of_z}
use Rattle.std.proofs.lemmas.Int.{to_z-of_z}
use mir.Syntax.{w128}
use Rattle.cap_lin.specs.Linear.{number}
use Rattle.cap_fm_spec.specs.Runs.{contradiction}
use Rattle.cap_fm_spec.specs.Rows.{is_false, fail}
use Rattle.cap_fm_elimination.specs.Views.{stage_view, origin_view, false_view}
use Rattle.cap_fm_elimination.specs.Answers.{Is}
use Rattle.cap_fm_elimination.specs.declared.entry.FalseRow.{FalseRow}
use Rattle.cap_fm_elimination.proofs.NewRows.{fail-is, last-is, grows-noted, look-bare-false, look-bare-true, is-by}
use Rattle.cap_fm_elimination.proofs.Runs.{done-is}
use Rattle.cap_fm_elimination.proofs.arising.bare.Goals as goal

pub returns-in_ok-origin : goal.returns-in_ok-origin
returns-in_ok-origin c = λ inputs present f i.
    let n = c.in_ok-origin.ensures in
    let v = to_z-of_z _ _ c.ranges.constant in
    let e : is_false c.args.kind c.args.constant ≡ true = ap (is_false c.args.kind) (sym v) ∙ sym c.if-is_false.ensures in
    let d : FalseRow = record { constant = to_z w128 (of_z w128 c.args.constant); kind = c.args.kind; origin = c.in_ok-origin.origin } in
    let w = fail-is c.args.stage.now c.note.new.self c.args.origin (number d.constant) c.args.kind c.in_ok-origin.origin n.forms n.history n.place in (
      is-by _ _ _ _ (stage_view c.args.stage.now) (look-bare-false (number c.args.constant) c.args.kind (origin_view c.args.origin) refl e) (subst (λ x. Is (contradiction (false_view d)) (stage_view c.note.new.self) (fail (number x) c.args.kind (origin_view c.args.origin) (stage_view c.args.stage.now))) v w),
      last-is inputs c.args.stage.now c.note.new.self c.args.origin d present n.history n.place i f,
      grows-noted c.args.stage.now c.note.new.self c.args.origin n.forms n.history,
    )

pub returns-else-is_false : goal.returns-else-is_false
returns-else-is_false c = λ inputs present f i.
    let e : is_false c.args.kind c.args.constant ≡ false = ap (is_false c.args.kind) (sym (to_z-of_z _ _ c.ranges.constant)) ∙ sym c.if-is_false.ensures in
    (is-by _ _ _ _ (stage_view c.args.stage.now) (look-bare-true (number c.args.constant) c.args.kind (origin_view c.args.origin) refl e) (done-is [] (stage_view c.args.stage.now)), f, λ d x. x)
