use Rattle.std.proofs.Common.{◌≡◌, ◌∷◌, drop, None, Some, subst}
use Rattle.std.proofs.Math.Logic.{∥∥₁_map}
use Rattle.cap_goal.specs.Views.{choice_view}
use Rattle.cap_kernel_check_steps.specs.Debts.{debt_view, owed_view, left_view, DebtsAreKept, LeavesOwed, LeftIsKept}
use Rattle.cap_kernel_check.specs.JudgeViews.{judge_view}
use Rattle.cap_kernel_check_steps.proofs.Judgements.{next-fails, ok-pays}
use Rattle.cap_kernel_check_steps.proofs.Rooms.{first-has-room}
use Rattle.cap_kernel_check.proofs.judge.Judge.judge.Goals as goal

pub debts_left-requires : goal.debts_left-requires
debts_left-requires c =
    let j = judge_view c.args.self.now in
    first-has-room j.program (debt_view c.in-Some.debt.now) (drop 1 j.owed) j.owed (rw c.deref.ensures.value at c.in-Some.ensures) c.args.self.now.kept

pub pay-requires : goal.pay-requires
pay-requires c =
    let j = judge_view c.args.self.now in
    let d = debt_view c.in-Some.debt.now in
    let o : j.owed ≡ d ∷ drop 1 j.owed = rw c.deref.ensures.value at c.in-Some.ensures in
    ∥∥₁_map c.args.self.now.kept
    (λ h. let k : DebtsAreKept j.program (d ∷ drop 1 j.owed) = subst (DebtsAreKept j.program) o h in
    subst (λ x. LeftIsKept j.program (left_view x)) c.in-Some-left.is (c.in_ok-left-in-Some.ensures.kept k.0))

pub returns-in-None-left-clause-judged : goal.returns-in-None-left-clause-judged
returns-in-None-left-clause-judged c =
    let j = judge_view c.args.self.now in
    let d = debt_view c.in-Some.debt.now in
    let h = choice_view c.args.choice.now in
    let l : LeavesOwed j.program d h None = subst (λ x. LeavesOwed j.program d h (left_view x)) c.in-None-left.is c.in_ok-left-in-Some.ensures.left in
    next-fails j (judge_view c.fail-in-None-left.new.self) h d (drop 1 j.owed) c.requires (rw c.deref.ensures.value at c.in-Some.ensures) l c.fail-in-None-left.ensures

pub returns-in-Some-left-clause-judged : goal.returns-in-Some-left-clause-judged
returns-in-Some-left-clause-judged c =
    let j = judge_view c.args.self.now in
    let d = debt_view c.in-Some.debt.now in
    let h = choice_view c.args.choice.now in
    let left = owed_view c.in-Some-left.left.items in
    let l : LeavesOwed j.program d h (Some left) = subst (λ x. LeavesOwed j.program d h (left_view x)) c.in-Some-left.is c.in_ok-left-in-Some.ensures.left in
    ok-pays j (judge_view c.pay.new.self) h d (drop 1 j.owed) left c.pay.result c.requires (rw c.deref.ensures.value at c.in-Some.ensures) l c.pay.ensures.paid
