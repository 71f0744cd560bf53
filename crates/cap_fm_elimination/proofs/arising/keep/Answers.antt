use Rattle.std.proofs.Common.{◌∷◌, [], ◌++◌, length, ap, ◌∙◌, subst, sym}
use Rattle.cap_fm_spec.specs.Runs.{going}
use Rattle.cap_fm_spec.specs.Rows.{keep}
use Rattle.cap_fm_elimination.specs.Views.{stage_view, entry_view, origin_view, IsStageOf}
use Rattle.cap_fm_elimination.specs.Answers.{Is}
use Rattle.cap_fm_elimination.specs.declared.entry.Present.{Present}
use Rattle.cap_fm_elimination.proofs.NewRows.{fits-kept, keep-is}
use Rattle.cap_fm_elimination.proofs.Terms.{kept-entry}
use Rattle.cap_fm_elimination.proofs.arising.keep.Goals as goal

pub returns : goal.returns
returns c = λ inputs present t f i a n.
    let n0 = c.in_ok-origin.ensures in
    let k = n0.forms ∙ c.enter.ensures.forms in
    let h = n0.history ∙ ap (λ os. os ++ (c.args.origin ∷ [])) c.enter.ensures.history in
    let p = n0.place ∙ ap length c.enter.ensures.history in
    let q = fits-kept inputs c.args.stage.now c.note.new.self c.args.origin present (record { term = t; kind = c.args.kind; origin = c.in_ok-origin.origin; number = c.args.number }) k (n0.marks ∙ c.enter.ensures.marks) h i a n p f in
    let d : Present = record { kind = c.args.kind; origin = c.in_ok-origin.origin; number = c.args.number } in
    let e = kept-entry c.args.stage.now c.note.new.self t d k a n in
    let w = keep-is c.args.stage.now c.note.new.self c.args.origin t c.args.kind c.in_ok-origin.origin k h p in (
      subst (λ x. Is (going (entry_view x ∷ [])) (stage_view c.note.new.self) (keep t c.args.kind (origin_view c.args.origin) (stage_view c.args.stage.now))) (sym e) w,
      subst (λ x. IsStageOf inputs c.note.new.self (present ++ (x ∷ []))) (sym e) q.0,
      q.1,
    )
