use Rattle.std.proofs.Common.{arith}
use Rattle.std.proofs.lemmas.Result.{err_from_is_err_and}
use Rattle.cap_goal_spec.specs.Candidates.{candidate_of}
use Rattle.cap_stab_states.specs.Views.{candidate_view}
use Rattle.cap_stab.proofs.Named.{row_made, row_fails, twin, beyond, number_low, number_high, number_there}
use Rattle.cap_stab.proofs.settling.named_candidate.Goals.{then-place-low-via-then-place-low, then-place-low-via-else-place-low+then-place-all}
use Rattle.cap_stab.proofs.settling.named_candidate.Goals as goal

pub returns-then-place-low : goal.returns-then-place-low
returns-then-place-low c ms e = elim c.then-place-low.branch [
  | then-place-low-via-then-place-low w ↦ number_low ms c.args.low c.args.number (omega arith)
  | then-place-low-via-else-place-low+then-place-all w ↦
      number_high ms c.args.low c.args.number (omega arith) (beyond candidate_view candidate_of c.args.all.now ms c.args.number e (omega arith))
]

pub returns-in_err-row : goal.returns-in_err-row
returns-in_err-row c ms e =
    let p = err_from_is_err_and c.from_residual.result c.from_residual.ensures.1 in
    let t = twin candidate_view candidate_of c.args.all.now ms c.args.number _ e (omega arith) c.index-all-place.is in
    rw (p.1, p.2) (number_there ms c.args.low c.args.number t.0 _ (omega arith) t.1 (row_fails _ _ t.0 t.2 c.in_err-row.ensures))

pub returns : goal.returns
returns c ms e =
    let t = twin candidate_view candidate_of c.args.all.now ms c.args.number _ e (omega arith) c.index-all-place.is in
    number_there ms c.args.low c.args.number t.0 _ (omega arith) t.1 (row_made _ _ t.0 t.2 c.in_ok-row.ensures)
