use Rattle.std.proofs.Common.{◌≡◌, ◌++◌, map}
use Rattle.std.specs.Vec.Iter.{into_iter_items}
use Rattle.cap_kernel_check_steps.specs.Debts.{debt_view}
use Rattle.cap_kernel_check_steps.specs.Owed.{debts_of}
use Rattle.cap_kernel_check_steps.specs.Views.{starts_view}
use Rattle.cap_kernel_check_steps.proofs.owing.owed_at.Given as goal

-- what is owed so far, and at the roots that remain
abbrev pub invariant-loop-start : goal.invariant-loop-start
invariant-loop-start l =
    map debt_view l.debts.items ++ debts_of (starts_view (into_iter_items l.start-iterator))
    ≡ debts_of (starts_view l.fn.starts.items)
