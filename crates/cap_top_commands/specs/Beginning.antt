-- What is known once the file of a program was read, by which a second one is answered.
use Rattle.std.specs.Prelude.{ℕ, List}
use Rattle.cap_prog.specs.Program.{PlainProgram}
use Rattle.cap_prog.specs.Views.{program_view}
use Rattle.cap_top_reading.specs.Refused.{IsTextOf}
use Rattle.cap_top_commands.specs.declared.beginning.Begun as code
use Rattle.cap_top_commands.specs.declared.beginning.Begun.TheVariants.{Program, Said}
use Rattle.cap_top_commands.specs.Answers.{SaysRefusal, IsOnly, IsOnlyTextOf}
use Rattle.cap_top_commands.specs.Output.{Output}
use Rattle.cap_top_commands.specs.Views.{output_view}

-- this is said of the bytes, which are no program's text
pub record IsOnlyRefusal (bytes : List ℕ) (o : Output) : Type 0 where
  pub output : IsOnly (SaysRefusal bytes) o
  pub none : (p : PlainProgram) → IsTextOf bytes p → ⊥

-- the program of the bytes, or what is said without a second file
abbrev pub Begins : List ℕ → code.Begun → Type 0
Begins bytes (Program p) = IsOnlyTextOf bytes (program_view p)
Begins bytes (Said o) = IsOnlyRefusal bytes (output_view o)
