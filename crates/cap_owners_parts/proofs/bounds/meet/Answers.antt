use Rattle.std.proofs.Common.{rules, ◌≡◌, ◌≤◌, ◌&&◌, ◌||◌, ◌==◌, length, not, false, sym, ap, ◌∙◌}
use Rattle.std.proofs.lemmas.Bool.{and_left, and_right}
use Rattle.cap_galg_indices.proofs.Walks.{drop-ascends, passes-left, passes-right, passes-both}
use Rattle.cap_galg_indices.proofs.Walks.{left-last, right-last}
use Rattle.cap_owners_parts.proofs.bounds.meet.Goals as goal
use Rattle.cap_owners_parts.proofs.bounds.meet.Goals.{else-in_left-via-then-in_left+else-in_right}
use Rattle.cap_owners_parts.proofs.bounds.meet.Goals.{else-in_left-via-else-in_left, else-loop-left-test}
use Rattle.cap_owners_parts.proofs.bounds.meet.Goals.{then-loop-left-test+else-not-is_empty}

pub loop-left-preserved-then-x-y : goal.loop-left-preserved-then-x-y
loop-left-preserved-then-x-y c =
    let i = c.loop-left.invariant in
    let h : 1 ≤ length c.loop-left.left.now = search rules in
    let k : 1 ≤ length c.loop-left.right.now = search rules in
    let apart : (c.loop-left.in_left && c.loop-left.in_right) ≡ false = elim c.else-in_left.branch [
      | else-in_left-via-then-in_left+else-in_right w ↦ and_right _ _ w.if-in_right.false
      | else-in_left-via-else-in_left w ↦ and_left _ _ w.if-in_left.false
    ] in
    let e = passes-left c.loop-left.in_left c.loop-left.in_right c.loop-left.left.now c.loop-left.right.now
    i.left i.right h k c.if-x-y.true apart in
    rw c.after_first-left.ensures (record {
      left = drop-ascends c.loop-left.left.now i.left;
      right = i.right;
      meet = sym e ∙ i.meet;
    })

pub loop-left-preserved-then-y-x : goal.loop-left-preserved-then-y-x
loop-left-preserved-then-y-x c =
    let i = c.loop-left.invariant in
    let h : 1 ≤ length c.loop-left.left.now = search rules in
    let k : 1 ≤ length c.loop-left.right.now = search rules in
    let apart : (c.loop-left.in_left && c.loop-left.in_right) ≡ false = elim c.else-in_left.branch [
      | else-in_left-via-then-in_left+else-in_right w ↦ and_right _ _ w.if-in_right.false
      | else-in_left-via-else-in_left w ↦ and_left _ _ w.if-in_left.false
    ] in
    let e = passes-right c.loop-left.in_left c.loop-left.in_right c.loop-left.left.now c.loop-left.right.now
    i.left i.right h k c.if-y-x.true apart in
    rw c.after_first-right.ensures (record {
      left = i.left;
      right = drop-ascends c.loop-left.right.now i.right;
      meet = sym e ∙ i.meet;
    })

pub loop-left-preserved : goal.loop-left-preserved
loop-left-preserved c =
    let i = c.loop-left.invariant in
    let h : 1 ≤ length c.loop-left.left.now = search rules in
    let k : 1 ≤ length c.loop-left.right.now = search rules in
    let apart : (c.loop-left.in_left && c.loop-left.in_right) ≡ false = elim c.else-in_left.branch [
      | else-in_left-via-then-in_left+else-in_right w ↦ and_right _ _ w.if-in_right.false
      | else-in_left-via-else-in_left w ↦ and_left _ _ w.if-in_left.false
    ] in
    let e = passes-both c.loop-left.in_left c.loop-left.in_right c.loop-left.left.now c.loop-left.right.now
    i.left i.right h k c.if-y-x.false c.if-x-y.false apart in
    rw (c.after_first-left-else-y-x.ensures, c.after_first-right-else-y-x.ensures) (record {
      left = drop-ascends c.loop-left.left.now i.left;
      right = drop-ascends c.loop-left.right.now i.right;
      meet = sym e ∙ i.meet;
    })

pub returns : goal.returns
returns c =
    let i = c.loop-left.invariant in
    let left-empty = c.is_empty-2.ensures in
    let right-empty = c.is_empty-3.ensures in
    let end = c.meet_in_the_end.ensures in
    let r : c.meet_in_the_end.result
    ≡ ((c.loop-left.in_left && (c.loop-left.in_right || not (length c.loop-left.right.now == 0)))
    || (c.loop-left.in_right && not (length c.loop-left.left.now == 0))) = first_of (cc, search rules) in
    elim c.loop-left-test.branch [
      | then-loop-left-test+else-not-is_empty w ↦ ap not (r ∙ sym (right-last _ _ c.loop-left.left.now c.loop-left.right.now i.left (search rules)) ∙ i.meet)
      | else-loop-left-test w ↦ ap not (r ∙ sym (left-last _ _ c.loop-left.left.now c.loop-left.right.now i.right (search rules)) ∙ i.meet)
    ]
