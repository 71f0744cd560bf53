-- The name has the same content in the rest as in the whole.
use Rattle.std.proofs.Common.{◌≡◌, length}
use Rattle.cap_io.specs.Memory.{files_of}
use Rattle.cap_io.specs.Files.{content}
use Rattle.cap_io.proofs.memory.find.Given as goal

abbrev pub invariant-loop-file : goal.invariant-loop-file
invariant-loop-file l = content (files_of l.rest) l.name ≡ content (files_of l.fn.files) l.fn.name

abbrev pub decreases-loop-file : goal.decreases-loop-file
decreases-loop-file l = length l.rest
