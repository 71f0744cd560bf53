use Rattle.std.proofs.Common.{rules, ◌≡◌, ◌∙◌, ap, sym, pos, arith, subst, length, List, [], ◌∷◌, ◌++◌}
use Rattle.std.proofs.lemmas.Int.{ints, to_z-of_z}
use Rattle.std.proofs.lemmas.Result.{err_from_is_err_and}
use mir.Val.{SFits}
use mir.Syntax.{w128}
use Rattle.cap_lin.specs.Linear.{Linear, coefficient}
use Rattle.cap_lin.proofs.Results.{is_zero-yes, is_zero-no}
use Rattle.cap_fm_spec.specs.Runs as plain
use Rattle.cap_fm_spec.specs.Runs.{Run}
use Rattle.cap_fm_spec.proofs.Lists.{each-left}
use Rattle.cap_fm_elimination.specs.Views.{entry_of, entries_of, lacking_rows}
use Rattle.cap_fm_elimination.specs.Answers.{Explains, Arises}
use Rattle.cap_fm_elimination.specs.declared.entry.Arisen.TheVariants.{LeftOut, Kept, False}
use Rattle.cap_fm_elimination.proofs.Terms.{same-entry, same-term, numbered-now, grown-entries, entries-then, entries-more}
use Rattle.cap_fm_elimination.proofs.Replacing.{AllGoes, run-by, all-starts, all-stays, all-left_out, all-kept, all-false, all-fails, all-ends, fits-rest, no-items}
use Rattle.cap_fm_elimination.proofs.equations.replace_all.Goals as goal

pub loop-row-init : goal.loop-row-init
loop-row-init c = λ inputs f n m.
    let s = c.args.stage.now in
    all-starts inputs c.args.variable (entry_of s c.args.equation) s (entries_of s c.in_ok-replaced.replaced.items) (entries_of s c.args.rows.items) (entries_of s c.into_iter-row-iterator.result.rest.items) (ap (entries_of s) c.in_ok-replaced.ensures.items) (ap (entries_of s) c.into_iter-row-iterator.ensures.into_iter_gives.0) f n m

pub loop-row-preserved-in-Continue-branch-2 : goal.loop-row-preserved-in-Continue-branch-2
loop-row-preserved-in-Continue-branch-2 c = λ inputs f n m.
    let x = c.args.variable in
    let s = c.args.stage.now in
    let now = c.loop-row.stage in
    let held = entries_of now c.loop-row.replaced.items in
    let all = entries_of s c.args.rows.items in
    let rest = entries_of s c.next.new.self.rest.items in
    let equation = entry_of s c.args.equation in
    let d = entry_of s c.in-Some.row in
    let h : AllGoes inputs x equation s now held all (d ∷ rest) = subst (λ ds. AllGoes inputs x equation s now held all (entries_of s ds)) c.in-Some.ensures.steps.0 (c.loop-row.invariant inputs f n m) in
    let o = c.coefficient-own.ensures.coefficient ∙ ap (λ (t : Linear). coefficient x t.parts) (c.term-in-loop-row.ensures ∙ same-term s now c.in-Some.row h.numbered.0) in
    let t = c.if-own-eq0.true in
    let z : c.coefficient-own.result ≡ pos 0 = omega (arith, ints) in
    all-stays inputs x equation d s now held (entries_of now c.push.new.self.items) all rest (is_zero-yes _ (rw o at z)) (ap (entries_of now) c.in_ok-push.ensures.items ∙ entries-then now c.loop-row.replaced.items c.in-Some.row ∙ ap (λ w. held ++ (w ∷ [])) (same-entry s now c.in-Some.row h.numbered.0)) h

pub returns-in_err-replace : goal.returns-in_err-replace
returns-in_err-replace c = λ inputs f n m.
    let x = c.args.variable in
    let s = c.args.stage.now in
    let now = c.loop-row.stage in
    let held = entries_of now c.loop-row.replaced.items in
    let all = entries_of s c.args.rows.items in
    let rest = entries_of s c.next.new.self.rest.items in
    let equation = entry_of s c.args.equation in
    let d = entry_of s c.in-Some.row in
    let h : AllGoes inputs x equation s now held all (d ∷ rest) = subst (λ ds. AllGoes inputs x equation s now held all (entries_of s ds)) c.in-Some.ensures.steps.0 (c.loop-row.invariant inputs f n m) in
    let o = c.coefficient-own.ensures.coefficient ∙ ap (λ (t : Linear). coefficient x t.parts) (c.term-in-loop-row.ensures ∙ same-term s now c.in-Some.row h.numbered.0) in
    let t = c.if-own-eq0.false in
    let z : c.coefficient-own.result ≡ pos 0 → ⊥ = λ i. omega (arith, ints) in
    let y = is_zero-no _ (rw o at z) in
    let u : SFits w128 c.coefficient-own.result = search rules in
    let v : SFits w128 c.coefficient-coefficient.result = search rules in
    let e = c.coefficient-coefficient.ensures.coefficient ∙ ap (λ (t : Linear). coefficient x t.parts) c.term.ensures in
    let present = held ++ lacking_rows x rest in
    let g = fits-rest inputs x now d held rest y h.fits in
    let r = run-by x equation d (entry_of now c.args.equation) (entry_of now c.in-Some.row) present now _ _ (same-entry s now c.args.equation h.equation_numbered) (same-entry s now c.in-Some.row h.numbered.0) (to_z-of_z _ _ v ∙ e) (to_z-of_z _ _ u ∙ o) in
    let i = numbered-now s now c.in-Some.row h.numbered.0 in
    let j = numbered-now s now c.args.equation h.equation_numbered in
    let k = subst (λ (q : Run (List plain.Entry)). Explains c.in_err-replace.field-0.0 q.events) r (c.in_err-replace.ensures inputs present g i j) in
    let p = err_from_is_err_and c.from_residual-in_err-replace.result c.from_residual-in_err-replace.ensures.1 in
    rw (p.1, p.2) (all-fails inputs x equation d c.in_err-replace.field-0.0 s now held all rest y k h)

pub returns-in-False : goal.returns-in-False
returns-in-False c = λ inputs f n m.
    let x = c.args.variable in
    let s = c.args.stage.now in
    let now = c.loop-row.stage in
    let held = entries_of now c.loop-row.replaced.items in
    let all = entries_of s c.args.rows.items in
    let rest = entries_of s c.next.new.self.rest.items in
    let equation = entry_of s c.args.equation in
    let d = entry_of s c.in-Some.row in
    let h : AllGoes inputs x equation s now held all (d ∷ rest) = subst (λ ds. AllGoes inputs x equation s now held all (entries_of s ds)) c.in-Some.ensures.steps.0 (c.loop-row.invariant inputs f n m) in
    let o = c.coefficient-own.ensures.coefficient ∙ ap (λ (t : Linear). coefficient x t.parts) (c.term-in-loop-row.ensures ∙ same-term s now c.in-Some.row h.numbered.0) in
    let t = c.if-own-eq0.false in
    let z : c.coefficient-own.result ≡ pos 0 → ⊥ = λ i. omega (arith, ints) in
    let y = is_zero-no _ (rw o at z) in
    let u : SFits w128 c.coefficient-own.result = search rules in
    let v : SFits w128 c.coefficient-coefficient.result = search rules in
    let e = c.coefficient-coefficient.ensures.coefficient ∙ ap (λ (t : Linear). coefficient x t.parts) c.term.ensures in
    let present = held ++ lacking_rows x rest in
    let g = fits-rest inputs x now d held rest y h.fits in
    let r = run-by x equation d (entry_of now c.args.equation) (entry_of now c.in-Some.row) present now _ _ (same-entry s now c.args.equation h.equation_numbered) (same-entry s now c.in-Some.row h.numbered.0) (to_z-of_z _ _ v ∙ e) (to_z-of_z _ _ u ∙ o) in
    let i = numbered-now s now c.in-Some.row h.numbered.0 in
    let j = numbered-now s now c.args.equation h.equation_numbered in
    let k = subst (λ q. Arises inputs now c.replace.new.stage present q (False c.in-False.row)) r ((rw c.in-False.is at c.in_ok-replace.ensures) inputs present g i j) in
    all-false inputs x equation d c.in-False.row s now c.replace.new.stage held all rest y k h

pub loop-row-preserved-in-LeftOut : goal.loop-row-preserved-in-LeftOut
loop-row-preserved-in-LeftOut c = λ inputs f n m.
    let x = c.args.variable in
    let s = c.args.stage.now in
    let now = c.loop-row.stage in
    let held = entries_of now c.loop-row.replaced.items in
    let all = entries_of s c.args.rows.items in
    let rest = entries_of s c.next.new.self.rest.items in
    let equation = entry_of s c.args.equation in
    let d = entry_of s c.in-Some.row in
    let h : AllGoes inputs x equation s now held all (d ∷ rest) = subst (λ ds. AllGoes inputs x equation s now held all (entries_of s ds)) c.in-Some.ensures.steps.0 (c.loop-row.invariant inputs f n m) in
    let o = c.coefficient-own.ensures.coefficient ∙ ap (λ (t : Linear). coefficient x t.parts) (c.term-in-loop-row.ensures ∙ same-term s now c.in-Some.row h.numbered.0) in
    let t = c.if-own-eq0.false in
    let z : c.coefficient-own.result ≡ pos 0 → ⊥ = λ i. omega (arith, ints) in
    let y = is_zero-no _ (rw o at z) in
    let u : SFits w128 c.coefficient-own.result = search rules in
    let v : SFits w128 c.coefficient-coefficient.result = search rules in
    let e = c.coefficient-coefficient.ensures.coefficient ∙ ap (λ (t : Linear). coefficient x t.parts) c.term.ensures in
    let present = held ++ lacking_rows x rest in
    let g = fits-rest inputs x now d held rest y h.fits in
    let r = run-by x equation d (entry_of now c.args.equation) (entry_of now c.in-Some.row) present now _ _ (same-entry s now c.args.equation h.equation_numbered) (same-entry s now c.in-Some.row h.numbered.0) (to_z-of_z _ _ v ∙ e) (to_z-of_z _ _ u ∙ o) in
    let i = numbered-now s now c.in-Some.row h.numbered.0 in
    let j = numbered-now s now c.args.equation h.equation_numbered in
    let k = subst (λ q. Arises inputs now c.replace.new.stage present q LeftOut) r ((rw c.in-LeftOut.is at c.in_ok-replace.ensures) inputs present g i j) in
    let same = grown-entries now c.replace.new.stage c.loop-row.replaced.items k.2 (each-left _ held (lacking_rows x rest) g.numbered) in
    subst (λ es. AllGoes inputs x equation s c.replace.new.stage es all rest) (sym same) (all-left_out inputs x equation d s now c.replace.new.stage held all rest y k h)

pub loop-row-preserved : goal.loop-row-preserved
loop-row-preserved c = λ inputs f n m.
    let x = c.args.variable in
    let s = c.args.stage.now in
    let now = c.loop-row.stage in
    let held = entries_of now c.loop-row.replaced.items in
    let all = entries_of s c.args.rows.items in
    let rest = entries_of s c.next.new.self.rest.items in
    let equation = entry_of s c.args.equation in
    let d = entry_of s c.in-Some.row in
    let h : AllGoes inputs x equation s now held all (d ∷ rest) = subst (λ ds. AllGoes inputs x equation s now held all (entries_of s ds)) c.in-Some.ensures.steps.0 (c.loop-row.invariant inputs f n m) in
    let o = c.coefficient-own.ensures.coefficient ∙ ap (λ (t : Linear). coefficient x t.parts) (c.term-in-loop-row.ensures ∙ same-term s now c.in-Some.row h.numbered.0) in
    let t = c.if-own-eq0.false in
    let z : c.coefficient-own.result ≡ pos 0 → ⊥ = λ i. omega (arith, ints) in
    let y = is_zero-no _ (rw o at z) in
    let u : SFits w128 c.coefficient-own.result = search rules in
    let v : SFits w128 c.coefficient-coefficient.result = search rules in
    let e = c.coefficient-coefficient.ensures.coefficient ∙ ap (λ (t : Linear). coefficient x t.parts) c.term.ensures in
    let present = held ++ lacking_rows x rest in
    let g = fits-rest inputs x now d held rest y h.fits in
    let r = run-by x equation d (entry_of now c.args.equation) (entry_of now c.in-Some.row) present now _ _ (same-entry s now c.args.equation h.equation_numbered) (same-entry s now c.in-Some.row h.numbered.0) (to_z-of_z _ _ v ∙ e) (to_z-of_z _ _ u ∙ o) in
    let i = numbered-now s now c.in-Some.row h.numbered.0 in
    let j = numbered-now s now c.args.equation h.equation_numbered in
    let k = subst (λ q. Arises inputs now c.replace.new.stage present q (Kept c.in-Kept.row)) r ((rw c.in-Kept.is at c.in_ok-replace.ensures) inputs present g i j) in
    let more = entries-more now c.replace.new.stage c.loop-row.replaced.items c.push-in-Kept.new.self.items c.in-Kept.row c.in_ok-push-in-Kept.ensures.items k.2 (each-left _ held (lacking_rows x rest) g.numbered) in
    all-kept inputs x equation d c.in-Kept.row s now c.replace.new.stage held (entries_of c.replace.new.stage c.push-in-Kept.new.self.items) all rest y more k h

pub returns : goal.returns
returns c = λ inputs f n m.
    let l : length c.loop-row.row-iterator.rest.items ≡ c.loop-row.row-iterator.rest.len = search rules in
    let s = c.args.stage.now in
    all-ends inputs c.args.variable (entry_of s c.args.equation) s c.loop-row.stage (entries_of c.loop-row.stage c.loop-row.replaced.items) (entries_of s c.args.rows.items) (entries_of s c.loop-row.row-iterator.rest.items) (ap (entries_of s) (no-items _ _ l c.in-None.ensures.steps.0)) (c.loop-row.invariant inputs f n m)
