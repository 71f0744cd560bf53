use Rattle.std.proofs.Common.{◌≡◌, ◌≤◌, take}
use Rattle.cap_syntax.specs.Spelling.{max_literal, number_of}
use Rattle.cap_syntax.proofs.spelling.number_of.Given as goal

abbrev pub invariant-loop-byte : goal.invariant-loop-byte
invariant-loop-byte l = (l.number ≡ number_of (take l.byte-index l.digits)) × (l.number ≤ max_literal)
