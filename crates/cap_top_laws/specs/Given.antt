-- What files give where no fault comes.
use Rattle.std.specs.Prelude.{◌≡◌, ℕ, nat_lt, if◌then◌else◌, List, [], ◌∷◌, length, Option, Some, None}
use Rattle.cap_io.specs.Files.{Files, content}
use Rattle.cap_io.specs.Outside.{longest}
use Rattle.cap_top_commands.specs.Answers.{Fetched, held, unread, long, IsOutput}
use Rattle.cap_top_commands.specs.Output.{Output}
use Rattle.cap_top_words.specs.Meaning.{PlainCommand}
use Rattle.cap_top_commands.specs.Commands.{files_of}

-- what a file of this content gives
abbrev pub given_by : Option (List ℕ) → Fetched
given_by None = unread
given_by (Some bytes) = if nat_lt longest (length bytes) then long else held bytes

-- so it is with the files of the first of these names
abbrev pub AreGiven : Files → List (List ℕ) → List Fetched → Type 0
AreGiven files names [] = Unit {0}
AreGiven files [] (x ∷ xs) = ⊥
AreGiven files (name ∷ names) (x ∷ xs) =
    (given_by (content files name) ≡ x) × AreGiven files names xs

-- the command has an output over these files: by what as many of them give as are read
pub record HasOutput (command : Option PlainCommand) (files : Files) : Type 0 where
  pub got : List Fetched
  pub given : AreGiven files (files_of command) got
  pub said : Output
  pub output : IsOutput command got said
