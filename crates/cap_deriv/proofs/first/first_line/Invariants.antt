use Rattle.std.proofs.Common.{◌≡◌, ◌++◌, take, drop}
use Rattle.cap_deriv.proofs.Cut.{front, back}
use Rattle.cap_deriv.proofs.first.first_line.Given as goal

abbrev pub invariant-loop-i : goal.invariant-loop-i
invariant-loop-i l = record {
  front : front l.bytes ≡ take l.i l.bytes ++ front (drop l.i l.bytes);
  back : back l.bytes ≡ back (drop l.i l.bytes);
}
