use Rattle.std.proofs.Common.{◌≡◌, ◌++◌, replicate, pos}
use Rattle.cap_machine_accounts.specs.Assertions.{a_number}
use Rattle.cap_owners_start.proofs.start.push_locals.Given as goal

abbrev pub invariant-loop-local : goal.invariant-loop-local
invariant-loop-local l = l.names ≡ l.fn.names ++ replicate l._local (a_number (pos 0))
