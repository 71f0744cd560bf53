use Rattle.std.proofs.Common.{◌<◌, ◌≤◌, ◌++◌, length, arith}
use Rattle.cap_lin.specs.Steps.{first_wide}
use Rattle.std.proofs.lemmas.Result.{err_from_is_err_and}
use Rattle.cap_gsolve.specs.Merge.{parted_rows, parted_steps}
use Rattle.cap_gsolve.proofs.Beside.{stops, goes_on, passes, adds, narrow, done}
use Rattle.cap_gsolve.proofs.spans.push_all_parted.Goals as goal
use Rattle.cap_gsolve.proofs.spans.push_all_parted.Goals.{then-is_part_of+in_ok-push_parted, else-is_part_of}

pub returns-in_err-push_parted : goal.returns-in_err-push_parted
returns-in_err-push_parted c =
    let h : c.loop-there.there-index < length c.args.pieces.now = omega arith in
    let p = err_from_is_err_and c.from_residual.result c.from_residual.ensures.1 in
    rw (p.1, p.2) (stops parted_steps c.args.piece.now _ _ c.there-item.result c.is_part_of.result _ _ h c.there-item.is c.is_part_of.ensures c.if-is_part_of.true c.in_err-push_parted.ensures c.loop-there.invariant.steps)

pub loop-there-preserved : goal.loop-there-preserved
loop-there-preserved c =
    let h : c.loop-there.there-index < length c.args.pieces.now = omega arith in
    elim c.if-is_part_of.branch [
      | then-is_part_of+in_ok-push_parted w ↦
          let m = w.in_ok-push_parted.ensures in
          record {
            steps = goes_on parted_steps c.args.piece.now _ _ c.there-item.result c.is_part_of.result _ h c.there-item.is c.is_part_of.ensures w.if-is_part_of.true m.0 c.loop-there.invariant.steps;
            rows = rw w.rows-is (adds parted_rows c.args.piece.now _ _ c.there-item.result c.is_part_of.result _ _ _ h c.there-item.is c.is_part_of.ensures w.if-is_part_of.true m.1 c.loop-there.invariant.rows);
          }
      | else-is_part_of w ↦ record {
        steps = passes parted_steps c.args.piece.now _ _ c.there-item.result c.is_part_of.result (λ xs. first_wide xs) _ h c.there-item.is c.is_part_of.ensures w.if-is_part_of.false c.loop-there.invariant.steps;
        rows = rw w.rows-is (passes parted_rows c.args.piece.now _ _ c.there-item.result c.is_part_of.result (λ xs. c.loop-there.rows.items ++ xs) _ h c.there-item.is c.is_part_of.ensures w.if-is_part_of.false c.loop-there.invariant.rows);
      }
    ]

pub returns : goal.returns
returns c =
    let h : length c.args.pieces.now ≤ c.loop-there.there-index = omega arith in
    (narrow parted_steps c.args.piece.now _ _ _ h c.loop-there.invariant.steps, done parted_rows c.args.piece.now _ _ _ _ h c.loop-there.invariant.rows)
