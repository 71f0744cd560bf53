-- The exit code of each status.
use Rattle.std.specs.Prelude.{ℕ}
use Rattle.cap_top_commands.specs.declared.status.Status.{Status}
use Rattle.cap_top_commands.specs.declared.status.Status.TheVariants.{Good, Bad, Refused, Usage, ReadFault, WriteFault, NoMemory, NotEnabled, Wide}

abbrev pub code_of : Status → ℕ
code_of Good = 0
code_of Bad = 1
code_of Refused = 2
code_of Usage = 3
code_of ReadFault = 4
code_of WriteFault = 5
code_of NoMemory = 6
code_of NotEnabled = 7
code_of Wide = 8
