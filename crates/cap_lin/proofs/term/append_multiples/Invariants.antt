use Rattle.std.proofs.Common.{◌≡◌, ◌++◌, drop}
use Rattle.cap_lin.specs.Linear.{multiples}
use Rattle.cap_lin.specs.Steps.{first_wide, multiples_steps}
use Rattle.cap_lin.proofs.term.append_multiples.Given as goal

abbrev pub invariant-loop-part : goal.invariant-loop-part
invariant-loop-part g l = record {
  steps : first_wide (multiples_steps l.k (drop l.part-index l.parts)) ≡ first_wide (multiples_steps l.k l.parts);
  parts : g.P.PartList.items l.to ++ multiples l.k (drop l.part-index l.parts) ≡ g.P.PartList.items l.fn.to ++ multiples l.k l.parts;
}
