use Rattle.std.proofs.Common.{◌≡◌, subst}
use Rattle.std.specs.Prelude.{Err}
use Rattle.std.proofs.lemmas.Result.{err_from_is_err_and}
use Rattle.cap_prog.specs.Views.{program_view}
use Rattle.cap_goal.specs.Views.{goal_view}
use Rattle.cap_kernel_check_steps.specs.GrowthViews.{Grows, preorder_view}
use Rattle.cap_kernel_check_steps.proofs.growth.grow_at_root.Goals as goal

pub returns-in_err-grow-in-At : goal.returns-in_err-grow-in-At
returns-in_err-grow-in-At c =
    let q = err_from_is_err_and c.from_residual.result c.from_residual.ensures.1 in
    let e : c.grow.result ≡ Err c.in_err-grow-in-At.field-0.0 = c.in_err-grow-in-At.was in
    rw (q.1, q.2, c.in-At.is) (subst (λ r. Grows (program_view c.args.program.now) 0 (goal_view c.in-At.goal) (preorder_view c.args.choices.now) r (preorder_view c.grow.new.choices)) e c.grow.ensures)
