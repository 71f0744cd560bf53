use Rattle.std.proofs.Common.{◌≡◌, [], ap}
use Rattle.cap_kernel_check_steps.specs.Owed.{debts_of}
use Rattle.cap_kernel_check_steps.specs.Views.{starts_view}
use Rattle.cap_kernel_check_steps.proofs.Stacks.{none-left, owed-all}
use Rattle.cap_kernel_check_steps.proofs.owing.owed_at.Goals as goal

pub returns : goal.returns
returns c =
    let rest = c.loop-start.start-iterator.rest in
    let none : rest.items ≡ [] = none-left rest.items rest.len rest.ok.0 c.in-None.ensures.steps.0 in
    owed-all c.loop-start.debts.items c.reverse.new.self.items (debts_of (starts_view rest.items)) (debts_of (starts_view c.args.starts.items)) c.reverse.ensures.items (ap (λ z. debts_of (starts_view z)) none) c.loop-start.invariant
