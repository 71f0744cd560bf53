-- What a whole run does: an output is found and put.
use Rattle.std.specs.Prelude.{◌≡◌, ℕ, ◌⊎◌, List, Option}
use Rattle.cap_io.specs.Files.{SeenShelf}
use Rattle.cap_io.specs.Outside.{SeenSink, Rose, Gains, GainsPrefix}
use Rattle.cap_top_commands.specs.declared.status.Status.{Status}
use Rattle.cap_top_commands.specs.declared.status.Status.TheVariants.{WriteFault, NoMemory}
use Rattle.cap_top_commands.specs.Answers.{Fetched, IsOutput, IsOnlyOutput}
use Rattle.cap_top_words.specs.Meaning.{PlainCommand}
use Rattle.cap_top_commands.specs.Commands.{files_of}
use Rattle.cap_top_commands.specs.Output.{Output}
use Rattle.cap_top.specs.Reads.{AreRead}

-- what is said of the command, by what the files that were read gave, and nothing else
pub record IsSaid (shelf shelf_now : SeenShelf) (command : Option PlainCommand) (o : Output) : Type 0 where
  pub got : List Fetched
  pub read : AreRead shelf shelf_now (files_of command) got
  pub output : IsOnlyOutput (IsOutput command) got o

-- all of the output's text was put, or the put failed after the first of it
abbrev pub IsPut : SeenSink → SeenSink → Status → Output → Type 0
IsPut sink sink_now status o =
    ((status ≡ o.status) × Gains sink.written sink_now.written o.text)
    ⊎ ((status ≡ WriteFault) × Rose sink.faults sink_now.faults
    × GainsPrefix sink.written sink_now.written o.text)

-- memory ran out, and nothing was put
abbrev pub IsNothing : SeenSink → SeenSink → Status → Type 0
IsNothing sink sink_now status = (status ≡ NoMemory) × (sink_now.written ≡ sink.written)

abbrev pub IsRun : Option PlainCommand → SeenShelf → SeenShelf → SeenSink → SeenSink → Status → Type 0
IsRun command shelf shelf_now sink sink_now status =
    ((o : Output) × IsSaid shelf shelf_now command o × IsPut sink sink_now status o)
    ⊎ IsNothing sink sink_now status
