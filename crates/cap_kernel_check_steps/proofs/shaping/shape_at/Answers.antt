use Rattle.std.proofs.Common.{suc, [], map, subst}
use Rattle.std.proofs.lemmas.Result.{err_from_is_err_and}
use Rattle.cap_prog.specs.Views.{program_view}
use Rattle.cap_kernel_check_steps.specs.Owed.{debts_of}
use Rattle.cap_kernel_check_steps.specs.declared.error.CheckError.TheVariants.{Shape}
use Rattle.cap_kernel_check_steps.specs.Growths.{Halts}
use Rattle.cap_kernel_check_steps.specs.GrowthViews.{preorder_view}
use Rattle.cap_kernel_check_steps.specs.Views.{starts_view, tree_view}
use Rattle.cap_kernel_check_steps.proofs.Growing.{halts-at-roots, left-over}
use Rattle.cap_kernel_check_steps.proofs.shaping.shape_at.Goals as goal

pub returns-in_err-trees : goal.returns-in_err-trees
returns-in_err-trees c =
    let p = program_view c.args.program.now in
    let ds = debts_of (starts_view c.args.starts.now) in
    let e = c.in_err-trees.field-0.0 in
    let q = err_from_is_err_and c.from_residual.result c.from_residual.ensures.1 in
    rw (q.1, q.2) (subst (λ w. Halts p ds w e) c.new-choices.ensures (halts-at-roots p ds (preorder_view c.new-choices.result) e (c.in_err-trees.ensures [])))

pub returns-in_err-end : goal.returns-in_err-end
returns-in_err-end c =
    let p = program_view c.args.program.now in
    let ss = starts_view c.args.starts.now in
    let v = preorder_view c.grow_at_roots.new.choices in
    let q = err_from_is_err_and c.from_residual-in_err-end.result c.from_residual-in_err-end.ensures.1 in
    rw (q.1, q.2, c.in_err-end.ensures.1) (subst (λ w. Halts p (debts_of ss) w (Shape (suc v.passed))) c.new-choices.ensures
    (left-over p (map tree_view c.in_ok-trees.trees.items) ss (preorder_view c.new-choices.result) v c.in_ok-trees.ensures.0 c.in_ok-trees.ensures.1 c.in_err-end.ensures.0))
