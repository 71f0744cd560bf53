-- An interrupted read takes nothing.
use Rattle.std.specs.Io.KnownBytes.{Keeps}
use Rattle.cap_io.proofs.system.read_some.Given as goal

abbrev pub invariant-loop : goal.invariant-loop
invariant-loop g l = Keeps (g.F.Read.remaining l.fn.file) (g.F.Read.remaining l.file)
