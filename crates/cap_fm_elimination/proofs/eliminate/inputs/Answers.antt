use Rattle.std.proofs.Common.{◌≡◌, ◌<◌, ◌≤◌, length, length-append, [], ◌∷◌, ◌++◌, arith, sym, ap, ◌∙◌, subst}
use Rattle.std.proofs.lemmas.List.{append-nil}
use Rattle.std.proofs.lemmas.Result.{err_from_is_err_and}
use Rattle.cap_fm_spec.specs.Elimination.{inputs}
use Rattle.cap_fm_elimination.specs.Views.{stage_view, entry_view, entry_of, entries_of, IsStageOf}
use Rattle.cap_fm_elimination.proofs.Terms.{grown-entries, entries-more}
use Rattle.cap_fm_elimination.proofs.Walks.{reach-err, inputs-fail, inputs-contradict, inputs-go, inputs-end, view-more}
use Rattle.cap_fm_elimination.proofs.eliminate.inputs.Goals as goal
use Rattle.cap_fm_elimination.proofs.eliminate.inputs.Goals.{in-LeftOut, in-Kept+in_ok-push-in-Kept}

pub returns-in_err-input : goal.returns-in_err-input
returns-in_err-input c = λ f.
    let i = c.loop-i.invariant f in
    let l : c.loop-i.i < length (c.args.rows.now ++ c.args.more.now) = rw (length-append c.args.rows.now c.args.more.now) (omega arith) in
    reach-err (length (c.args.rows.now ++ c.args.more.now)) c.input.new.stage (inputs [] 0 (c.args.rows.now ++ c.args.more.now) (stage_view c.args.stage.now)) c.from_residual-in_err-input.result c.in_err-input.field-0.0 (err_from_is_err_and c.from_residual-in_err-input.result c.from_residual-in_err-input.ensures.1) (inputs-fail _ _ c.loop-i.i c.numbered_row-row.result.now (c.args.rows.now ++ c.args.more.now) _ _ l c.numbered_row-row.ensures i.1 (c.in_err-input.ensures _ _ i.0 l))

pub returns-in-False : goal.returns-in-False
returns-in-False c = λ f.
    let i = c.loop-i.invariant f in
    let l : c.loop-i.i < length (c.args.rows.now ++ c.args.more.now) = rw (length-append c.args.rows.now c.args.more.now) (omega arith) in
    let a = rw c.in-False.is at (c.in_ok-input.ensures _ _ i.0 l) in
    (inputs-contradict _ _ c.loop-i.i c.numbered_row-row.result.now (c.args.rows.now ++ c.args.more.now) _ _ _ l c.numbered_row-row.ensures i.1 a.0, a.1)

pub loop-i-preserved : goal.loop-i-preserved
loop-i-preserved c = λ f.
    let i = c.loop-i.invariant f in
    let inputs = length (c.args.rows.now ++ c.args.more.now) in
    let l : c.loop-i.i < inputs = rw (length-append c.args.rows.now c.args.more.now) (omega arith) in
    let now = c.loop-i.stage in
    let new = c.input.new.stage in
    let held = entries_of now c.loop-i.entries.items in
    elim c.match-branch-3.branch [
      | in-LeftOut w ↦
          let a = rw w.in-LeftOut.is at (c.in_ok-input.ensures _ _ i.0 l) in
          let e : entries_of new c.match-branch-3.entries.items ≡ held = ap (λ v. entries_of new v.items) w.entries-is ∙ grown-entries now new c.loop-i.entries.items a.2 i.0.numbered in
          (subst (IsStageOf inputs new) (sym e) a.1, inputs-go _ [] _ _ c.loop-i.i c.numbered_row-row.result.now (c.args.rows.now ++ c.args.more.now) _ _ l c.numbered_row-row.ensures (view-more held [] _ (e ∙ sym (append-nil held))) i.1 a.0)
      | in-Kept+in_ok-push-in-Kept w ↦
          let a = rw w.in-Kept.is at (c.in_ok-input.ensures _ _ i.0 l) in
          let row = entry_of new w.in-Kept.row in
          let e : entries_of new c.match-branch-3.entries.items ≡ held ++ (row ∷ []) = entries-more now new c.loop-i.entries.items c.match-branch-3.entries.items w.in-Kept.row (ap (λ v. v.items) w.entries-is ∙ w.in_ok-push-in-Kept.ensures.items) a.2 i.0.numbered in
          (subst (IsStageOf inputs new) (sym e) a.1, inputs-go _ (entry_view row ∷ []) _ _ c.loop-i.i c.numbered_row-row.result.now (c.args.rows.now ++ c.args.more.now) _ _ l c.numbered_row-row.ensures (view-more held (row ∷ []) _ e) i.1 a.0)
    ]

pub returns : goal.returns
returns c = λ f.
    let i = c.loop-i.invariant f in
    let l : length (c.args.rows.now ++ c.args.more.now) ≤ c.loop-i.i = rw (length-append c.args.rows.now c.args.more.now) (omega arith) in
    (inputs-end _ _ c.loop-i.i (c.args.rows.now ++ c.args.more.now) _ l i.1, i.0)
