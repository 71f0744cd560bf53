-- Which words are which command.
use Rattle.std.specs.Prelude.{ℕ, ◌==◌, Bool, false, List, [], ◌∷◌, Option, Some, None, codes}
use Rattle.std.specs.Prelude.{option_map, option_and_then, find, if◌then◌else◌}
use Rattle.std.specs.Str.{bytes_eq}
use Rattle.cap_top_words.specs.Number.{number_within}

-- a word, as its bytes
abbrev pub CommandWord : Type 0
CommandWord = List ℕ

-- a command: words stand for files, numbers for a budget, for a trial, or for what schedules are
-- drawn from and how many they are
pub data PlainCommand : Type 0 where
  verify : CommandWord → ℕ → PlainCommand
  derive : CommandWord → ℕ → PlainCommand
  check : CommandWord → CommandWord → PlainCommand
  replay : CommandWord → CommandWord → PlainCommand
  show : CommandWord → PlainCommand
  trial : ℕ → PlainCommand
  outline : CommandWord → CommandWord → PlainCommand
  owners : CommandWord → CommandWord → CommandWord → PlainCommand
  stray : CommandWord → ℕ → ℕ → PlainCommand
  core : CommandWord → PlainCommand

-- ---- the words after a command's name

-- the values of the option `--budget`, and the operands, each in the order of the words
pub record Arguments : Type 0 where
  pub budgets : List CommandWord
  pub operands : List CommandWord

abbrev pub with_budget : CommandWord → Option Arguments → Option Arguments
with_budget n = option_map (λ (a : Arguments). record a { budgets = n ∷ a.budgets })

abbrev pub with_operand : CommandWord → Option Arguments → Option Arguments
with_operand w = option_map (λ (a : Arguments). record a { operands = w ∷ a.operands })

abbrev pub begins_option : CommandWord → Bool
begins_option [] = false
begins_option (b ∷ bs) = b == 45

-- what follows the front in the word
abbrev pub rest_after : CommandWord → CommandWord → Option CommandWord
rest_after [] word = Some word
rest_after (c ∷ cs) [] = None
rest_after (c ∷ cs) (x ∷ xs) = if x == c then rest_after cs xs else None

-- the word is `--budget=N`, with N what follows the sign, or else an operand
abbrev pub joined_or_operand : Option CommandWord → CommandWord → Option Arguments
    → Option Arguments
joined_or_operand (Some n) w others = with_budget n others
joined_or_operand None w others = if begins_option w then None else with_operand w others

-- The arguments that the words give. Before the first `--` the option is `--budget` and the next
-- word, or `--budget=N`, and no other word begins with `-`. The words after it are operands.
abbrev mutual
  pub arguments_of : List CommandWord → Option Arguments
  arguments_of [] = Some (record { budgets = []; operands = [] })
  arguments_of (w ∷ words) =
      if bytes_eq w (codes "--") then Some (record { budgets = []; operands = words })
      else (if bytes_eq w (codes "--budget") then arguments_after_option words
      else joined_or_operand (rest_after (codes "--budget=") w) w (arguments_of words))

  -- the word before was `--budget`
  pub arguments_after_option : List CommandWord → Option Arguments
  arguments_after_option [] = None
  arguments_after_option (n ∷ words) =
      if begins_option n then None else with_budget n (arguments_of words)

-- ---- the commands

abbrev pub default_budget : ℕ
default_budget = 200000

-- the budget of the option's values: at most one, from 1 to 1000000000
abbrev pub budget_of : List CommandWord → Option ℕ
budget_of [] = Some default_budget
budget_of (n ∷ []) = number_within 1 1000000000 n
budget_of _ = None

-- what a command takes: the command that the values of the option and the operands make, if any
abbrev pub Signature : Type 0
Signature = List CommandWord → List CommandWord → Option PlainCommand

-- `FILE [--budget N]`
abbrev pub file_and_budget : (CommandWord → ℕ → PlainCommand) → Signature
file_and_budget make budgets (file ∷ []) = option_map (make file) (budget_of budgets)
file_and_budget make budgets _ = None

-- one operand
abbrev pub one_operand : (CommandWord → Option PlainCommand) → Signature
one_operand make [] (a ∷ []) = make a
one_operand make _ _ = None

-- two operands
abbrev pub two_operands : (CommandWord → CommandWord → PlainCommand) → Signature
two_operands make [] (a ∷ b ∷ []) = Some (make a b)
two_operands make _ _ = None

-- three operands
abbrev pub three_operands : (CommandWord → CommandWord → CommandWord → Option PlainCommand)
    → Signature
three_operands make [] (a ∷ b ∷ c ∷ []) = make a b c
three_operands make _ _ = None

-- a file, a derivation and a schedule
abbrev pub owners_of : CommandWord → CommandWord → CommandWord → Option PlainCommand
owners_of file derivation schedule = Some (owners file derivation schedule)

-- a file, the number that schedules are drawn from, and how many they are
abbrev pub stray_of : CommandWord → CommandWord → CommandWord → Option PlainCommand
stray_of file number count =
    option_and_then (λ n. option_map (stray file n) (number_within 1 1000 count))
    (number_within 0 18446744073709551615 number)

-- each command's name, and what it takes
abbrev pub signatures : List (CommandWord × Signature)
signatures =
    (codes "verify", file_and_budget verify)
    ∷ (codes "derive", file_and_budget derive)
    ∷ (codes "check", two_operands check)
    ∷ (codes "replay", two_operands replay)
    ∷ (codes "show", one_operand (λ file. Some (show file)))
    ∷ (codes "trial", one_operand (λ n. option_map trial (number_within 1 50 n)))
    ∷ (codes "outline", two_operands outline)
    ∷ (codes "owners", three_operands owners_of)
    ∷ (codes "stray", three_operands stray_of)
    ∷ (codes "core", one_operand (λ file. Some (core file)))
    ∷ []

-- what the command of this name takes
abbrev pub signature_of : CommandWord → Option Signature
signature_of name = option_map (λ row. row.1) (find (λ row. bytes_eq name row.0) signatures)

-- what the command makes of its arguments
abbrev pub made_by : Signature → Option Arguments → Option PlainCommand
made_by takes = option_and_then (λ a. takes a.budgets a.operands)

-- the command that the words are, where they are one
abbrev pub command_of : List CommandWord → Option PlainCommand
command_of [] = None
command_of (name ∷ words) =
    option_and_then (λ takes. made_by takes (arguments_of words)) (signature_of name)
