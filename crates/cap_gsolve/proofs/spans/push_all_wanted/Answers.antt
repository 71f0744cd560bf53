use Rattle.std.proofs.Common.{◌<◌, ◌≤◌, ◌++◌, length, arith}
use Rattle.cap_lin.specs.Steps.{first_wide}
use Rattle.std.proofs.lemmas.Result.{err_from_is_err_and}
use Rattle.cap_gsolve.specs.Pieces.{piece}
use Rattle.cap_gsolve.specs.Compat.{wanted_beside, wanted_beside_steps}
use Rattle.cap_gsolve.proofs.Beside.{stops, goes_on, passes, adds, narrow, done}
use Rattle.cap_gsolve.proofs.spans.push_all_wanted.Goals as goal
use Rattle.cap_gsolve.proofs.spans.push_all_wanted.Goals.{then-is_of_atom+in_ok-push_wanted, else-is_of_atom}

pub returns-in_err-push_wanted : goal.returns-in_err-push_wanted
returns-in_err-push_wanted c =
    let h : c.loop-there.there-index < length c.args.pieces.now = omega arith in
    let p = err_from_is_err_and c.from_residual.result c.from_residual.ensures.1 in
    rw (p.1, p.2) (stops wanted_beside_steps (piece c.args.region.now c.args.kind c.args.atom c.args.wanted.now) _ _ c.there-item.result c.is_of_atom.result _ _ h c.there-item.is c.is_of_atom.ensures c.if-is_of_atom.true c.in_err-push_wanted.ensures c.loop-there.invariant.steps)

pub loop-there-preserved : goal.loop-there-preserved
loop-there-preserved c =
    let h : c.loop-there.there-index < length c.args.pieces.now = omega arith in
    elim c.if-is_of_atom.branch [
      | then-is_of_atom+in_ok-push_wanted w ↦
          let m = w.in_ok-push_wanted.ensures in
          record {
            steps = goes_on wanted_beside_steps (piece c.args.region.now c.args.kind c.args.atom c.args.wanted.now) _ _ c.there-item.result c.is_of_atom.result _ h c.there-item.is c.is_of_atom.ensures w.if-is_of_atom.true m.0 c.loop-there.invariant.steps;
            rows = rw w.rows-is (adds wanted_beside (piece c.args.region.now c.args.kind c.args.atom c.args.wanted.now) _ _ c.there-item.result c.is_of_atom.result _ _ _ h c.there-item.is c.is_of_atom.ensures w.if-is_of_atom.true m.1 c.loop-there.invariant.rows);
          }
      | else-is_of_atom w ↦ record {
        steps = passes wanted_beside_steps (piece c.args.region.now c.args.kind c.args.atom c.args.wanted.now) _ _ c.there-item.result c.is_of_atom.result (λ xs. first_wide xs) _ h c.there-item.is c.is_of_atom.ensures w.if-is_of_atom.false c.loop-there.invariant.steps;
        rows = rw w.rows-is (passes wanted_beside (piece c.args.region.now c.args.kind c.args.atom c.args.wanted.now) _ _ c.there-item.result c.is_of_atom.result (λ xs. c.loop-there.rows.items ++ xs) _ h c.there-item.is c.is_of_atom.ensures w.if-is_of_atom.false c.loop-there.invariant.rows);
      }
    ]

pub returns : goal.returns
returns c =
    let h : length c.args.pieces.now ≤ c.loop-there.there-index = omega arith in
    (narrow wanted_beside_steps (piece c.args.region.now c.args.kind c.args.atom c.args.wanted.now) _ _ _ h c.loop-there.invariant.steps, done wanted_beside (piece c.args.region.now c.args.kind c.args.atom c.args.wanted.now) _ _ _ _ h c.loop-there.invariant.rows)
