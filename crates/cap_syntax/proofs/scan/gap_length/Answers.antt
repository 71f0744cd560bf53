use Rattle.std.proofs.Common.{length, sym, ◌∙◌, arith}
use Rattle.std.proofs.lemmas.List.{drop_all}
use Rattle.cap_syntax.proofs.Gaps.{nothing_behind, opens_is, step_in_comment, step_opens, step_blank, step_stops}
use Rattle.cap_syntax.proofs.scan.gap_length.Goals as goal
use Rattle.cap_syntax.proofs.scan.gap_length.Goals.{then-in_comment, else-in_comment+then-starts_with, else-in_comment+else-starts_with+else-not-is_blank}

pub returns-then-not-is_blank-clause-past : goal.returns-then-not-is_blank-clause-past
returns-then-not-is_blank-clause-past c =
    step_stops c.args.rest.now c.loop-i.i c.loop-i.in_comment c.loop-i-test.true c.loop-i.invariant c.if-in_comment.false (opens_is c.args.rest.now c.loop-i.i _ c.starts_with.ensures.value ∙ c.if-starts_with.false) (sym c.is_blank.ensures ∙ c.if-not-is_blank.true)

pub loop-i-preserved : goal.loop-i-preserved
loop-i-preserved c =
    elim c.if-in_comment.branch [
      | then-in_comment w ↦ step_in_comment c.args.rest.now c.loop-i.i c.loop-i.in_comment c.loop-i-test.true c.loop-i.invariant _ w.if-in_comment.true w.in_comment-is
      | else-in_comment+then-starts_with w ↦ step_opens c.args.rest.now c.loop-i.i c.loop-i.in_comment c.loop-i-test.true c.loop-i.invariant _ w.if-in_comment.false (opens_is c.args.rest.now c.loop-i.i _ w.starts_with.ensures.value ∙ w.if-starts_with.true) w.in_comment-is
      | else-in_comment+else-starts_with+else-not-is_blank w ↦ step_blank c.args.rest.now c.loop-i.i c.loop-i.in_comment c.loop-i-test.true c.loop-i.invariant _ w.if-in_comment.false (opens_is c.args.rest.now c.loop-i.i _ w.starts_with.ensures.value ∙ w.if-starts_with.false) (sym w.is_blank.ensures ∙ w.if-not-is_blank.false) (w.in_comment-is ∙ w.if-in_comment.false)
    ]

pub returns-clause-past : goal.returns-clause-past
returns-clause-past c =
    drop_all (length c.args.rest.now) c.args.rest.now (omega arith) ∙ sym (nothing_behind c.loop-i.in_comment c.args.rest.now c.loop-i.i (omega arith)) ∙ c.loop-i.invariant
