-- The ways to write a command.
use Rattle.std.specs.Prelude.{◌≡◌, ℕ, ◌≤◌, ◌⊎◌, false, List, [], ◌∷◌, ◌++◌, codes}
use Rattle.std.specs.Prelude.{Option, Some, None}
use Rattle.std.specs.List.{All}
use Rattle.std.specs.Fmt.{decimal}
use Rattle.cap_top_words.specs.Meaning.{PlainCommand, CommandWord, begins_option, default_budget}
use Rattle.cap_top_words.specs.Meaning.{verify, derive, check, replay, show, trial, outline, owners}
use Rattle.cap_top_words.specs.Meaning.{stray, core}

-- an argument before any `--`: an operand, or the option with its value, as two words or as one
pub data WrittenArgument : Type 0 where
  operand : CommandWord → WrittenArgument
  apart : CommandWord → WrittenArgument
  joined : CommandWord → WrittenArgument

-- here no operand begins with `-`, and no value that is a word of its own
abbrev pub IsWritable : WrittenArgument → Type 0
IsWritable (operand w) = begins_option w ≡ false
IsWritable (apart n) = begins_option n ≡ false
IsWritable (joined n) = Unit {0}

abbrev pub argument_words : WrittenArgument → List CommandWord
argument_words (operand w) = w ∷ []
argument_words (apart n) = codes "--budget" ∷ n ∷ []
argument_words (joined n) = (codes "--budget=" ++ n) ∷ []

-- nothing, or `--` and operands of any kind
abbrev pub ending_words : Option (List CommandWord) → List CommandWord
ending_words None = []
ending_words (Some operands) = codes "--" ∷ operands

-- the words of arguments and of what follows them
abbrev pub words_of : List WrittenArgument → Option (List CommandWord) → List CommandWord
words_of [] ending = ending_words ending
words_of (argument ∷ arguments) ending = argument_words argument ++ words_of arguments ending

-- the operands, and the values of the option, each in the order of the words
abbrev pub operands_of : List WrittenArgument → Option (List CommandWord) → List CommandWord
operands_of [] None = []
operands_of [] (Some operands) = operands
operands_of (operand w ∷ arguments) ending = w ∷ operands_of arguments ending
operands_of (apart n ∷ arguments) ending = operands_of arguments ending
operands_of (joined n ∷ arguments) ending = operands_of arguments ending

abbrev pub budgets_of : List WrittenArgument → List CommandWord
budgets_of [] = []
budgets_of (operand w ∷ arguments) = budgets_of arguments
budgets_of (apart n ∷ arguments) = n ∷ budgets_of arguments
budgets_of (joined n ∷ arguments) = n ∷ budgets_of arguments

-- the word writes the number, which is within the bounds
pub record IsNumber (least most : ℕ) (word : CommandWord) (n : ℕ) : Type 0 where
  pub decimal_text : word ≡ decimal n
  pub low : least ≤ n
  pub high : n ≤ most

-- the option's value, at most one, is the budget; without it the budget is the usual one
abbrev pub IsBudget : List CommandWord → ℕ → Type 0
IsBudget budgets n =
    ((budgets ≡ []) × (n ≡ default_budget))
    ⊎ ((word : CommandWord) × (budgets ≡ word ∷ []) × IsNumber 1 1000000000 word n)

-- the command has this name, these values of the option and these operands
abbrev pub HasArguments : PlainCommand → CommandWord → List CommandWord → List CommandWord → Type 0
HasArguments (verify file n) name budgets operands =
    (name ≡ codes "verify") × (operands ≡ file ∷ []) × IsBudget budgets n
HasArguments (derive file n) name budgets operands =
    (name ≡ codes "derive") × (operands ≡ file ∷ []) × IsBudget budgets n
HasArguments (check file derivation) name budgets operands =
    (name ≡ codes "check") × (operands ≡ file ∷ derivation ∷ []) × (budgets ≡ [])
HasArguments (replay file schedule) name budgets operands =
    (name ≡ codes "replay") × (operands ≡ file ∷ schedule ∷ []) × (budgets ≡ [])
HasArguments (show file) name budgets operands =
    (name ≡ codes "show") × (operands ≡ file ∷ []) × (budgets ≡ [])
HasArguments (trial n) name budgets operands =
    (name ≡ codes "trial")
    × ((word : CommandWord) × (operands ≡ word ∷ []) × IsNumber 1 50 word n) × (budgets ≡ [])
HasArguments (outline file derivation) name budgets operands =
    (name ≡ codes "outline") × (operands ≡ file ∷ derivation ∷ []) × (budgets ≡ [])
HasArguments (owners file derivation schedule) name budgets operands =
    (name ≡ codes "owners") × (operands ≡ file ∷ derivation ∷ schedule ∷ []) × (budgets ≡ [])
HasArguments (stray file n m) name budgets operands =
    (name ≡ codes "stray")
    × ((number count : CommandWord) × (operands ≡ file ∷ number ∷ count ∷ [])
    × IsNumber 0 18446744073709551615 number n × IsNumber 1 1000 count m)
    × (budgets ≡ [])
HasArguments (core file) name budgets operands =
    (name ≡ codes "core") × (operands ≡ file ∷ []) × (budgets ≡ [])

-- the words write the command: its name, and then its arguments, perhaps with a `--`
pub record IsWritten (words : List CommandWord) (command : PlainCommand) : Type 0 where
  pub name : CommandWord
  pub arguments : List WrittenArgument
  pub ending : Option (List CommandWord)
  pub writable : All IsWritable arguments
  pub spelled : words ≡ name ∷ words_of arguments ending
  pub meant : HasArguments command name (budgets_of arguments) (operands_of arguments ending)
