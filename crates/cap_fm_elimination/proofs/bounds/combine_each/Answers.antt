use Rattle.std.proofs.Common.{rules, ◌∙◌, ap, List, ◌+◌, drop, get_or, subst, sym}
use Rattle.std.proofs.lemmas.Int.{to_z-of_z}
use Rattle.std.proofs.lemmas.Result.{err_from_is_err_and}
use mir.Val.{SFits}
use mir.Syntax.{w128}
use Rattle.cap_lin.specs.Linear.{Linear, coefficient}
use Rattle.cap_fm_spec.specs.Runs as plain
use Rattle.cap_fm_spec.specs.Runs.{Run}
use Rattle.cap_fm_elimination.specs.Views.{stage_view, entry_of, entries_of, IsNumbered}
use Rattle.cap_fm_elimination.specs.Answers.{Explains, Arises}
use Rattle.cap_fm_elimination.specs.declared.entry.Arisen.TheVariants.{LeftOut, Kept, False}
use Rattle.cap_fm_elimination.proofs.Each.{each-at}
use Rattle.cap_fm_elimination.proofs.Terms.{no_row, entry-in, below-of, past-of, same-entry, same-term, numbered-now, grown-entries, entries-more}
use Rattle.cap_fm_elimination.proofs.Pairs.{EachGoes, pair-by, each-starts, each-next, each-left_out, each-kept, each-false, each-fails, each-ends}
use Rattle.cap_fm_elimination.proofs.bounds.combine_each.Goals as goal
use Rattle.cap_fm_elimination.proofs.bounds.combine_each.Goals.{in-LeftOut, in-Kept+in_ok-push-in-Kept}

pub loop-lower-init : goal.loop-lower-init
loop-lower-init c = λ inputs f n m.
    let s = c.args.stage.now in
    each-starts inputs c.args.variable (entry_of s c.args.upper) s (entries_of s c.args.kept.now.items) (entries_of s c.args.lowers.now) f

pub returns-in_err-combine_bounds : goal.returns-in_err-combine_bounds
returns-in_err-combine_bounds c = λ inputs f n m.
    let x = c.args.variable in
    let s = c.args.stage.now in
    let now = c.loop-lower.stage in
    let upper = entry_of s c.args.upper in
    let kept = entries_of s c.args.kept.now.items in
    let held = entries_of now c.loop-lower.kept.items in
    let all = entries_of s c.args.lowers.now in
    let i = c.loop-lower.lower-index in
    let item = get_or c.args.lowers.now i no_row in
    let lower = entry_of s item in
    let b = below-of s c.args.lowers.now i c.loop-lower-test.true in
    let a = entry-in s c.args.lowers.now i c.loop-lower-test.true in
    let h = each-next inputs x upper s now kept held all i lower b a (c.loop-lower.invariant inputs f n m) in
    let o : IsNumbered s lower = subst (IsNumbered s) (sym a) (each-at (IsNumbered s) all i lower b m) in
    let u = same-entry s now c.args.upper (h.grows _ n) in
    let v = same-entry s now item (h.grows _ o) in
    let k = pair-by x held upper lower (entry_of now c.args.upper) (entry_of now item) (stage_view now) u v in
    let w : SFits w128 c.coefficient-positive.result = search rules in
    let g = to_z-of_z _ _ w ∙ c.coefficient-positive.ensures.coefficient ∙ ap (λ (t : Linear). coefficient x t.parts) (c.term.ensures ∙ sym (same-term s now c.args.upper (h.grows _ n))) in
    let p = numbered-now s now c.args.upper (h.grows _ n) in
    let q = numbered-now s now item (h.grows _ o) in
    let d = subst (λ (r : Run (List plain.Entry)). Explains c.in_err-combine_bounds.field-0.0 r.events) k (c.in_err-combine_bounds.ensures inputs held h.fits p q g) in
    let r = err_from_is_err_and c.from_residual.result c.from_residual.ensures.1 in
    rw (r.1, r.2) (each-fails inputs x upper lower c.in_err-combine_bounds.field-0.0 s now kept held all _ h d)

pub returns-in-False : goal.returns-in-False
returns-in-False c = λ inputs f n m.
    let x = c.args.variable in
    let s = c.args.stage.now in
    let now = c.loop-lower.stage in
    let upper = entry_of s c.args.upper in
    let kept = entries_of s c.args.kept.now.items in
    let held = entries_of now c.loop-lower.kept.items in
    let all = entries_of s c.args.lowers.now in
    let i = c.loop-lower.lower-index in
    let item = get_or c.args.lowers.now i no_row in
    let lower = entry_of s item in
    let b = below-of s c.args.lowers.now i c.loop-lower-test.true in
    let a = entry-in s c.args.lowers.now i c.loop-lower-test.true in
    let h = each-next inputs x upper s now kept held all i lower b a (c.loop-lower.invariant inputs f n m) in
    let o : IsNumbered s lower = subst (IsNumbered s) (sym a) (each-at (IsNumbered s) all i lower b m) in
    let u = same-entry s now c.args.upper (h.grows _ n) in
    let v = same-entry s now item (h.grows _ o) in
    let k = pair-by x held upper lower (entry_of now c.args.upper) (entry_of now item) (stage_view now) u v in
    let w : SFits w128 c.coefficient-positive.result = search rules in
    let g = to_z-of_z _ _ w ∙ c.coefficient-positive.ensures.coefficient ∙ ap (λ (t : Linear). coefficient x t.parts) (c.term.ensures ∙ sym (same-term s now c.args.upper (h.grows _ n))) in
    let p = numbered-now s now c.args.upper (h.grows _ n) in
    let q = numbered-now s now item (h.grows _ o) in
    let d = subst (λ r. Arises inputs now c.combine_bounds.new.stage held r (False c.in-False.row)) k ((rw c.in-False.is at c.in_ok-combine_bounds.ensures) inputs held h.fits p q g) in
    each-false inputs x upper lower c.in-False.row s now c.combine_bounds.new.stage kept held all _ h d

pub loop-lower-preserved : goal.loop-lower-preserved
loop-lower-preserved c = λ inputs f n m.
    let x = c.args.variable in
    let s = c.args.stage.now in
    let now = c.loop-lower.stage in
    let upper = entry_of s c.args.upper in
    let kept = entries_of s c.args.kept.now.items in
    let held = entries_of now c.loop-lower.kept.items in
    let all = entries_of s c.args.lowers.now in
    let i = c.loop-lower.lower-index in
    let item = get_or c.args.lowers.now i no_row in
    let lower = entry_of s item in
    let b = below-of s c.args.lowers.now i c.loop-lower-test.true in
    let a = entry-in s c.args.lowers.now i c.loop-lower-test.true in
    let h = each-next inputs x upper s now kept held all i lower b a (c.loop-lower.invariant inputs f n m) in
    let o : IsNumbered s lower = subst (IsNumbered s) (sym a) (each-at (IsNumbered s) all i lower b m) in
    let u = same-entry s now c.args.upper (h.grows _ n) in
    let v = same-entry s now item (h.grows _ o) in
    let k = pair-by x held upper lower (entry_of now c.args.upper) (entry_of now item) (stage_view now) u v in
    let w : SFits w128 c.coefficient-positive.result = search rules in
    let g = to_z-of_z _ _ w ∙ c.coefficient-positive.ensures.coefficient ∙ ap (λ (t : Linear). coefficient x t.parts) (c.term.ensures ∙ sym (same-term s now c.args.upper (h.grows _ n))) in
    let p = numbered-now s now c.args.upper (h.grows _ n) in
    let q = numbered-now s now item (h.grows _ o) in
    let new = c.combine_bounds.new.stage in
    let rest = drop (i + 1) all in
    elim c.match-branch-2.branch [
      | in-LeftOut w ↦
          let d = subst (λ r. Arises inputs now new held r LeftOut) k ((rw w.in-LeftOut.is at c.in_ok-combine_bounds.ensures) inputs held h.fits p q g) in
          rw w.kept-is (subst (λ es. EachGoes inputs x upper s new kept es all rest) (sym (grown-entries now new c.loop-lower.kept.items d.2 h.fits.numbered)) (each-left_out inputs x upper lower s now new kept held all rest h d))
      | in-Kept+in_ok-push-in-Kept w ↦
          let d = subst (λ r. Arises inputs now new held r (Kept w.in-Kept.row)) k ((rw w.in-Kept.is at c.in_ok-combine_bounds.ensures) inputs held h.fits p q g) in
          rw w.kept-is (each-kept inputs x upper lower w.in-Kept.row s now new kept held (entries_of new w.push.new.self.items) all rest h d (entries-more now new c.loop-lower.kept.items w.push.new.self.items w.in-Kept.row w.in_ok-push-in-Kept.ensures.items d.2 h.fits.numbered))
    ]

pub returns : goal.returns
returns c = λ inputs f n m.
    let s = c.args.stage.now in
    each-ends inputs c.args.variable (entry_of s c.args.upper) s c.loop-lower.stage (entries_of s c.args.kept.now.items) (entries_of c.loop-lower.stage c.loop-lower.kept.items) (entries_of s c.args.lowers.now) c.loop-lower.lower-index (past-of s c.args.lowers.now _ c.loop-lower-test.false) (c.loop-lower.invariant inputs f n m)
