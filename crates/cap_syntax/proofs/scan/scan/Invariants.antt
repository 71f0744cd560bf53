use Rattle.std.proofs.Common.{length}
use Rattle.cap_syntax.specs.Place.{StandsAt}
use Rattle.cap_syntax.specs.Layout.{Reads}
use Rattle.cap_syntax.proofs.scan.scan.Given as goal

abbrev pub invariant-loop-rest : goal.invariant-loop-rest
invariant-loop-rest l = record {
  read : Reads l.bytes l.bytes l.tokens.items l.rest;
  stands : StandsAt l.bytes l.rest l.place;
}

abbrev pub decreases-loop-rest : goal.decreases-loop-rest
decreases-loop-rest l = length l.rest
