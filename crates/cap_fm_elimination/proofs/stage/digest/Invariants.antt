use Rattle.std.proofs.Common.{◌≡◌, drop}
use Rattle.std.specs.Prelude.{fold}
use Rattle.cap_fm_elimination.specs.Forms.{digest_of, with_part}
use Rattle.cap_fm_elimination.proofs.stage.digest.Given as goal

abbrev pub invariant-loop-part : goal.invariant-loop-part
invariant-loop-part l = fold with_part l.digest (drop l.part-index l.term.parts) ≡ digest_of l.term
