use Rattle.std.proofs.Common.{rules, ◌≡◌, ◌≤◌, ◌++◌, length, ap, sym, ◌∙◌}
use Rattle.cap_galg_indices.proofs.Walks.{drop-ascends, step-left, step-right, step-both, left-ends}
use Rattle.cap_galg_indices.proofs.Walks.{right-ends, pushed}
use Rattle.cap_owners_parts.proofs.merge.union.Goals as goal
use Rattle.cap_owners_parts.proofs.merge.union.Goals.{then-loop-x-test+else-not-is_empty, else-loop-x-test}

pub loop-x-preserved-then-x-y : goal.loop-x-preserved-then-x-y
loop-x-preserved-then-x-y c =
    let i = c.loop-x.invariant in
    let h : 1 ≤ length c.loop-x.left.now = search rules in
    let k : 1 ≤ length c.loop-x.right.now = search rules in
    let e = step-left c.loop-x.left.now c.loop-x.right.now i.left i.right h k c.if-x-y.true in
    rw c.after_first-left.ensures (record {
      left = drop-ascends c.loop-x.left.now i.left;
      right = i.right;
      union = pushed _ _ _ _ c.in_ok-push.ensures.items ∙ ap (λ l. c.loop-x.bounds.items ++ l) (sym e) ∙ i.union;
    })

pub loop-x-preserved-then-y-x : goal.loop-x-preserved-then-y-x
loop-x-preserved-then-y-x c =
    let i = c.loop-x.invariant in
    let h : 1 ≤ length c.loop-x.left.now = search rules in
    let k : 1 ≤ length c.loop-x.right.now = search rules in
    let e = step-right c.loop-x.left.now c.loop-x.right.now i.left i.right h k c.if-y-x.true in
    rw c.after_first-right.ensures (record {
      left = i.left;
      right = drop-ascends c.loop-x.right.now i.right;
      union = pushed _ _ _ _ c.in_ok-push-2.ensures.items ∙ ap (λ l. c.loop-x.bounds.items ++ l) (sym e) ∙ i.union;
    })

pub loop-x-preserved : goal.loop-x-preserved
loop-x-preserved c =
    let i = c.loop-x.invariant in
    let h : 1 ≤ length c.loop-x.left.now = search rules in
    let k : 1 ≤ length c.loop-x.right.now = search rules in
    let e = step-both c.loop-x.left.now c.loop-x.right.now i.left i.right h k c.if-y-x.false c.if-x-y.false in
    rw (c.after_first-left-else-y-x.ensures, c.after_first-right-else-y-x.ensures) (record {
      left = drop-ascends c.loop-x.left.now i.left;
      right = drop-ascends c.loop-x.right.now i.right;
      union = ap (λ l. c.loop-x.bounds.items ++ l) (sym e) ∙ i.union;
    })

pub returns : goal.returns
returns c =
    let i = c.loop-x.invariant in
    let e : c.extend_from_slice-2.new.self.items ≡ (c.loop-x.bounds.items ++ c.loop-x.left.now) ++ c.loop-x.right.now = search rules in
    elim c.loop-x-test.branch [
      | then-loop-x-test+else-not-is_empty w ↦ e ∙ sym (right-ends c.loop-x.bounds.items c.loop-x.left.now c.loop-x.right.now i.left (search rules)) ∙ i.union
      | else-loop-x-test w ↦ e ∙ sym (left-ends c.loop-x.bounds.items c.loop-x.left.now c.loop-x.right.now (search rules)) ∙ i.union
    ]
