use Rattle.std.proofs.Common.{◌≡◌, ◌+◌, ◌∙◌, suc, ap, sym, subst, length, arith, remove}
use Rattle.std.specs.Prelude.{Err}
use Rattle.std.proofs.lemmas.Result.{err_from_is_err_and}
use Rattle.cap_fm_elimination.specs.Answers.{Explains}
use Rattle.cap_fm_spec.specs.Solving.{solved}
use Rattle.cap_core.specs.Deciding.{IsCoreOf, IsTried}
use Rattle.cap_core.proofs.Walk.{Goes, numbers_unless, goes-on, fails, log-done, core-done}
use Rattle.cap_core.proofs.leaving.core.Goals.{then-not-branch+in_ok-push, else-not-branch}
use Rattle.cap_core.proofs.leaving.core.Goals as goal

pub returns-in_err-leaves_out-clause-exact : goal.returns-in_err-leaves_out-clause-exact
returns-in_err-leaves_out-clause-exact c =
    let h = err_from_is_err_and c.from_residual-in_err-leaves_out.result c.from_residual-in_err-leaves_out.ensures.1 in
    let place : c.len.result ≡ length c.loop-number.numbers.items = omega arith in
    subst (λ r. IsCoreOf r c.args.rows.now) (sym (h.1 ∙ ap Err h.2))
    (fails c.args.rows.now c.loop-number.left.items c.loop-number.numbers.items c.loop-number.number
    c.in_err-leaves_out.field-0.0 c.loop-number.invariant (omega arith)
    (subst (λ n. Explains c.in_err-leaves_out.field-0.0 (solved (remove c.loop-number.left.items n)).events)
    place c.in_err-leaves_out.ensures))

pub loop-number-preserved : goal.loop-number-preserved
loop-number-preserved c =
    let place : c.len.result ≡ length c.loop-number.numbers.items = omega arith in
    let next : suc c.loop-number.number ≡ c.loop-number.number + 1 = omega arith in
    let numbers : c.if-not-branch.numbers.items
    ≡ numbers_unless c.in_ok-leaves_out.field-0 c.loop-number.numbers.items c.loop-number.number =
    elim c.if-not-branch.branch [
      | then-not-branch+in_ok-push w ↦
          ap (λ v. v.items) w.numbers-is ∙ (w.in_ok-push.ensures.items
          ∙ sym (ap (λ b. numbers_unless b c.loop-number.numbers.items c.loop-number.number) w.if-not-branch.true))
      | else-not-branch w ↦
          ap (λ v. v.items) w.numbers-is
          ∙ sym (ap (λ b. numbers_unless b c.loop-number.numbers.items c.loop-number.number) w.if-not-branch.false)
    ] in
    subst (Goes c.args.rows.now c.leaves_out.new.rows.items c.if-not-branch.numbers.items) next
    (goes-on c.args.rows.now c.loop-number.left.items c.leaves_out.new.rows.items c.loop-number.numbers.items
    c.if-not-branch.numbers.items c.loop-number.number c.in_ok-leaves_out.field-0 c.loop-number.invariant (omega arith)
    (subst (λ n. IsTried c.loop-number.left.items n c.leaves_out.new.rows.items c.in_ok-leaves_out.field-0) place
    c.in_ok-leaves_out.ensures) numbers)

pub returns-clause-exact : goal.returns-clause-exact
returns-clause-exact c =
    log-done c.args.rows.now c.loop-number.left.items c.loop-number.numbers.items c.loop-number.number
    c.loop-number.invariant (omega arith)

pub returns-clause-irreducible : goal.returns-clause-irreducible
returns-clause-irreducible c =
    c.cores_are_irreducible.ensures c.args.rows.now c.loop-number.numbers.items c.requires.infeasible
    (core-done c.args.rows.now c.loop-number.left.items c.loop-number.numbers.items c.loop-number.number
    c.loop-number.invariant (omega arith))
