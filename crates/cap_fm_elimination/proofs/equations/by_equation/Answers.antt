use Rattle.std.proofs.Common.{◌≡◌, [], ◌++◌, ◌∙◌, ap, subst, sym}
use Rattle.cap_fm_spec.specs.Elimination.{replace_all}
use Rattle.cap_fm_elimination.specs.Views.{stage_view, entry_view, entries_view, entry_of, entries_of, lacking_rows, IsStageOf, IsNumbered, AreNumbered}
use Rattle.cap_fm_elimination.specs.Answers.{DoesReach, OnlyLeaves}
use Rattle.cap_fm_elimination.proofs.Taken.{taken-item, taken-rest, taken, reaches-from}
use Rattle.cap_fm_elimination.proofs.Terms.{entry-at, entries-by, entries-removed}
use Rattle.cap_fm_elimination.proofs.equations.by_equation.Goals as goal

pub returns : goal.returns
returns c = λ inputs before after equation f e p z.
    let x = c.args.pivot.variable in
    let i = c.args.pivot.place in
    let s = c.args.stage.now in
    let rows = c.args.rows.items in
    let d = c.remove-equation.result in
    let others = c.remove-equation.new.self.items in
    let l : OnlyLeaves inputs s c.leave_all.new.stage (lacking_rows x (entries_of s rows)) = (rw c.deref.ensures.value at c.leave_all.ensures) inputs f in
    let q : entry_of c.leave_all.new.stage d ≡ equation = l.same d ∙ taken-item (entries_of s rows) before after equation (entry_of s d) i e p (entry-at s rows i d c.requires c.remove-equation.ensures.value) in
    let o : entries_of c.leave_all.new.stage others ≡ before ++ after = entries-by s c.leave_all.new.stage others l.same ∙ taken-rest (entries_of s rows) (entries_of s others) before after equation i e p (ap (entries_of s) c.remove-equation.ensures.items ∙ sym (entries-removed s rows i)) in
    let t = taken inputs x s c.leave_all.new.stage (entries_of s rows) before after equation e z f l in
    let now = c.leave_all.new.stage in
    let r = c.replace_all.ensures inputs (subst (λ es. IsStageOf inputs now (lacking_rows x es)) (sym o) t.fits) (subst (AreNumbered now) (sym o) t.numbered) (subst (IsNumbered now) (sym q) t.equation_numbered) in
    let u = subst (λ e. DoesReach inputs c.replace_all.new.stage (replace_all x (entry_view e) [] (entries_view (entries_of now others)) (stage_view now)) c.replace_all.result) q r in
    let v = subst (λ es. DoesReach inputs c.replace_all.new.stage (replace_all x (entry_view equation) [] (entries_view es) (stage_view now)) c.replace_all.result) o u in
    reaches-from inputs x c.replace_all.new.stage equation (before ++ after) _ _ c.replace_all.result t.stage v
