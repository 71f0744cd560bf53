use Rattle.cap_galg.specs.Views.{algebra_view}
use Rattle.cap_rules_steps.proofs.Walking.{there, lacking}
use Rattle.cap_take_guards.proofs.Walks.{past-all}
use Rattle.cap_take_guards.proofs.sums.sum_at.Goals as goal

pub returns-in-Found : goal.returns-in-Found
returns-in-Found c =
    let h = rw c.in-Found.is at c.in_ok-sides.ensures in
    there _ _ h.1

pub returns-in-Past : goal.returns-in-Past
returns-in-Past c =
    let h = rw c.in-Past.is at c.in_ok-sides.ensures in
    lacking _ (past-all (algebra_view c.args.algebra.now) 0 c.args.number c.in-Past.field-0 c.in-Past.field-1 h)
