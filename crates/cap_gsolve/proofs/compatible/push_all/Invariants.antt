use Rattle.std.proofs.Common.{◌≡◌, ◌++◌, drop}
use Rattle.cap_lin.specs.Steps.{first_wide}
use Rattle.cap_gsolve.specs.Compat.{wanted_rows, wanted_steps}
use Rattle.cap_gsolve.proofs.compatible.push_all.Given as goal

abbrev pub invariant-loop-one : goal.invariant-loop-one
invariant-loop-one l = record {
  steps : first_wide (wanted_steps l.pieces l.region l.kind (drop l.one-index l.wanted)) ≡ first_wide (wanted_steps l.pieces l.region l.kind l.wanted);
  rows : l.rows.items ++ wanted_rows l.pieces l.region l.kind (drop l.one-index l.wanted) ≡ l.fn.rows.items ++ wanted_rows l.pieces l.region l.kind l.wanted;
}
