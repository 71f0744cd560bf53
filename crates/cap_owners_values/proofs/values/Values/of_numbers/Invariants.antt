use Rattle.std.proofs.Common.{◌≡◌, map, take}
use Rattle.cap_machine_accounts.specs.Assertions.{a_number}
use Rattle.cap_owners_values.proofs.values.Values.of_numbers.Given as goal

abbrev pub invariant-loop-number : goal.invariant-loop-number
invariant-loop-number l = l.values ≡ map a_number (take l.number-index l.numbers)
