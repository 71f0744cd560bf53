use Rattle.std.proofs.Common.{arith, refl, subst, Some, None}
use Rattle.std.proofs.lemmas.Result.{err_from_is_err_and}
use Rattle.cap_fm_spec.specs.Elimination.{width}
use Rattle.cap_fm_elimination.specs.Answers.{AllVariables, IsLeast}
use Rattle.cap_fm_elimination.specs.Views.{entries_view, entries_of}
use Rattle.cap_fm_elimination.proofs.Runs.{same-is, same-then, same-refl}
use Rattle.cap_fm_elimination.proofs.Walks.{reach-err, rows-under, to-least, none-left, still-under, variable-fails, variable-stops, variable-next}
use Rattle.cap_fm_elimination.proofs.eliminate.by_variables.Goals as goal

pub loop-variable-init : goal.loop-variable-init
loop-variable-init c = record {
  bound = omega arith;
  left = λ inputs f a. (f, rows-under _ (entries_of c.args.stage.now c.args.rows.items) a (omega arith), (width (entries_view (entries_of c.args.stage.now c.args.rows.items)), omega arith, same-refl _));
}

pub returns-in_err-others : goal.returns-in_err-others
returns-in_err-others c = λ inputs f a.
    let i = c.loop-variable.invariant.left inputs f a in
    let t = to-least _ _ _ c.in-Some.variable (entries_of c.loop-variable.stage c.loop-variable.rows.items) _ _ i.1 i.2.1 (subst (λ ds. IsLeast c.loop-variable.low (entries_of c.loop-variable.stage ds) (Some c.in-Some.variable)) c.deref.ensures.value c.in-Some.ensures) i.2.2 in
    reach-err inputs c.by_variable.new.stage (AllVariables (entries_of c.args.stage.now c.args.rows.items) c.args.stage.now) c.from_residual.result c.in_err-others.field-0.0 (err_from_is_err_and c.from_residual.result c.from_residual.ensures.1) (variable-fails _ c.in-Some.variable t.0 _ _ c.in_err-others.field-0.0 t.2 (c.in_err-others.ensures inputs i.0))

pub returns-in-Contradiction : goal.returns-in-Contradiction
returns-in-Contradiction c = λ inputs f a.
    let i = c.loop-variable.invariant.left inputs f a in
    let t = to-least _ _ _ c.in-Some.variable (entries_of c.loop-variable.stage c.loop-variable.rows.items) _ _ i.1 i.2.1 (subst (λ ds. IsLeast c.loop-variable.low (entries_of c.loop-variable.stage ds) (Some c.in-Some.variable)) c.deref.ensures.value c.in-Some.ensures) i.2.2 in
    let b = rw c.in-Contradiction.is at (c.in_ok-others.ensures inputs i.0) in
    (same-is _ _ _ _ t.2 (variable-stops _ _ t.0 _ _ _ _ refl b.0), b.1)

pub loop-variable-preserved : goal.loop-variable-preserved
loop-variable-preserved c = record {
  bound = omega arith;
  left = λ inputs f a.
      let i = c.loop-variable.invariant.left inputs f a in
      let t = to-least _ _ _ c.in-Some.variable (entries_of c.loop-variable.stage c.loop-variable.rows.items) _ _ i.1 i.2.1 (subst (λ ds. IsLeast c.loop-variable.low (entries_of c.loop-variable.stage ds) (Some c.in-Some.variable)) c.deref.ensures.value c.in-Some.ensures) i.2.2 in
      let b = rw c.in-Rows.is at (c.in_ok-others.ensures inputs i.0) in
      (b.1, still-under _ c.in-Some.variable (entries_of c.loop-variable.stage c.loop-variable.rows.items) _ _ _ i.1 b.0, (t.0, t.1, same-then _ _ _ t.2 (variable-next _ _ t.0 _ _ _ _ refl b.0)));
}

pub returns : goal.returns
returns c = λ inputs f a.
    let i = c.loop-variable.invariant.left inputs f a in
    (none-left _ _ (entries_of c.loop-variable.stage c.loop-variable.rows.items) _ _ (subst (λ ds. IsLeast c.loop-variable.low (entries_of c.loop-variable.stage ds) None) c.deref.ensures.value c.in_default.ensures) i.2.2, i.0)
