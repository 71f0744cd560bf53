use Rattle.std.proofs.Common.{◌≡◌, ◌≢◌, length, rules, subst, sym}
use Rattle.cap_prog.specs.Views.{program_view}
use Rattle.cap_kernel_check_steps.specs.Debts.{DebtsAreKept, owed_view}
use Rattle.cap_kernel_check_steps.specs.Views.{starts_view}
use Rattle.cap_kernel_check_steps.proofs.Judgements.{begins, begins-miscounted, debts-kept}
use Rattle.cap_kernel_check.proofs.judge.Judge.start.Goals as goal

pub returns-then-len-trees : goal.returns-then-len-trees
returns-then-len-trees c =
    let h1 = c.len.ensures in let h2 = c.if-len-trees.true in
    let other : length c.in_ok-starts.starts.items ≢ c.args.trees = search rules in
    begins-miscounted (program_view c.args.program.now) c.args.trees c.in_ok-starts.starts.items (owed_view c.new.result.items) c.in_ok-starts.ensures.all other

pub invariant_of-result-2-clause-kept : goal.invariant_of-result-2-clause-kept
invariant_of-result-2-clause-kept c =
    let p = program_view c.args.program.now in
    ∣ subst (DebtsAreKept p) (sym c.in_ok-owed_at.ensures) (debts-kept p (starts_view c.in_ok-starts.starts.items) c.in_ok-starts.ensures.kept) ∣₁

pub returns : goal.returns
returns c =
    let h1 = c.len.ensures in let h2 = c.if-len-trees.false in
    let same : length c.in_ok-starts.starts.items ≡ c.args.trees = search rules in
    begins (program_view c.args.program.now) c.args.trees c.in_ok-starts.starts.items (owed_view c.in_ok-owed_at.field-0.items) c.in_ok-starts.ensures.all same c.in_ok-owed_at.ensures
