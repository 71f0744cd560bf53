-- Which command the words are, and which files it reads.
use Rattle.std.specs.Prelude.{List, [], ◌∷◌, map, String, string_bytes, Option, Some, None}
use Rattle.std.specs.Global.{Global}
use Rattle.cap_top_words.specs.Meaning.{CommandWord, PlainCommand, verify, derive, check, show, replay, trial, outline, owners, stray, core, command_of}

-- the files that the command reads, in the order of the words
abbrev pub files_of : Option PlainCommand → List CommandWord
files_of None = []
files_of (Some (verify file budget)) = file ∷ []
files_of (Some (derive file budget)) = file ∷ []
files_of (Some (check file derivation)) = file ∷ (derivation ∷ [])
files_of (Some (replay file schedule)) = file ∷ (schedule ∷ [])
files_of (Some (show file)) = file ∷ []
files_of (Some (trial n)) = []
files_of (Some (outline file derivation)) = file ∷ (derivation ∷ [])
files_of (Some (owners file derivation schedule)) = file ∷ (derivation ∷ (schedule ∷ []))
files_of (Some (stray file number count)) = file ∷ []
files_of (Some (core file)) = file ∷ []

-- the command that the words are, where they are one
abbrev pub meant_by : List (String Global) → Option PlainCommand
meant_by words = command_of (map string_bytes words)
