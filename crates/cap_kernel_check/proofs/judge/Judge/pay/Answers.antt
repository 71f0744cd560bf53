use Rattle.cap_prog.specs.Views.{program_view}
use Rattle.cap_kernel_check_steps.specs.Debts.{owed_view}
use Rattle.cap_kernel_check_steps.proofs.Rooms.{kept-paid}
use Rattle.cap_kernel_check.proofs.judge.Judge.pay.Goals as goal

pub invariant_of-self-2-clause-kept : goal.invariant_of-self-2-clause-kept
invariant_of-self-2-clause-kept c =
    kept-paid (program_view c.args.self.now.program.now) (owed_view c.args.left.items) (owed_view c.args.self.now.owed.items) (owed_view c.replace_first.new.owed.items) c.in_ok-replace_first.ensures.replaced c.requires c.args.self.now.kept
