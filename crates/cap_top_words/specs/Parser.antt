-- The parser that `clap` runs, and what is read of its matches.
use Rattle.std.specs.Prelude.{◌≡◌, ℕ, ◌||◌, Bool, true, false, List, [], ◌∷◌, Option, Some, None}
use Rattle.std.specs.Prelude.{codes, option_map, option_and_then, find, fold, map, if◌then◌else◌}
use Rattle.std.specs.Str.{bytes_eq}
use Rattle.clap.specs.Walk.{Row, Rule, first_of}
use Rattle.clap.specs.Simple.{App, Shape, app_of, new_app, new_rule, new_shape, on_top}
use Rattle.clap.specs.Simple.{with_subcommand}
use Rattle.clap.specs.declared.builder.command.Command.{Command}
use Rattle.clap.specs.declared.builder.command.Command.TheViews.{out-Command}
use Rattle.cap_top_words.specs.Number.{number_within}
use Rattle.cap_top_words.specs.Meaning.{PlainCommand, CommandWord, default_budget}
use Rattle.cap_top_words.specs.Meaning.{verify, derive, check, replay, show, trial, outline, core}
use Rattle.cap_top_words.specs.Meaning.{owners_of, stray_of}

-- ---- `-` alone, which `clap` takes for an operand

-- `-` alone stands before the first `--`
abbrev pub has_lone_dash : List CommandWord → Bool
has_lone_dash [] = false
has_lone_dash (w ∷ words) =
    if bytes_eq w (codes "--") then false else (bytes_eq w (codes "-") || has_lone_dash words)

-- ---- the subcommands

abbrev pub budget_rule : Rule
budget_rule = record (new_rule (codes "budget")) { long = Some (codes "budget") }

abbrev pub operand_rule : CommandWord → Rule
operand_rule id = record (new_rule id) { required = true }

abbrev pub operand_rules : List CommandWord → List Rule
operand_rules = map operand_rule

abbrev pub subcommand_of_rules : CommandWord → List Rule → Shape
subcommand_of_rules name rules = record (new_shape name) { rules = rules }

-- `FILE [--budget N]`
abbrev pub budgeted_rules : List Rule
budgeted_rules = budget_rule ∷ operand_rules (codes "file" ∷ [])

-- a subcommand's name and its arguments
abbrev pub subcommands : List (CommandWord × List Rule)
subcommands =
    (codes "verify", budgeted_rules)
    ∷ (codes "derive", budgeted_rules)
    ∷ (codes "check", operand_rules (codes "file" ∷ codes "derivation" ∷ []))
    ∷ (codes "replay", operand_rules (codes "file" ∷ codes "schedule" ∷ []))
    ∷ (codes "show", operand_rules (codes "file" ∷ []))
    ∷ (codes "trial", operand_rules (codes "number" ∷ []))
    ∷ (codes "outline", operand_rules (codes "file" ∷ codes "derivation" ∷ []))
    ∷ (codes "owners", operand_rules (codes "file" ∷ codes "derivation" ∷ codes "schedule" ∷ []))
    ∷ (codes "stray", operand_rules (codes "file" ∷ codes "number" ∷ codes "count" ∷ []))
    ∷ (codes "core", operand_rules (codes "file" ∷ []))
    ∷ []

abbrev pub bare_app : App
bare_app = on_top (λ s. record s {
  no_binary_name = true;
  disable_help_flag = true;
  disable_help_subcommand = true;
  subcommand_required = true;
}) (new_app (codes "caper"))

abbrev pub caper_app : App
caper_app =
    fold (λ app sub. with_subcommand app (subcommand_of_rules sub.0 sub.1)) bare_app subcommands

-- a subcommand of this name and these arguments
abbrev pub IsSubcommand : CommandWord → List Rule → Command → Type 0
IsSubcommand name rules c =
    (app_of c ≡ record { top = subcommand_of_rules name rules; subs = [] })
    × ((out-Command c).has_globals ≡ false)

-- ---- what is read of the rows of a subcommand

abbrev pub RowReader : Type 0
RowReader = List Row → Option PlainCommand

-- the budget of the option's value, where the option was given
abbrev pub given_or_default : Option CommandWord → Option ℕ
given_or_default None = Some default_budget
given_or_default (Some n) = number_within 1 1000000000 n

abbrev pub budget_in : List Row → Option ℕ
budget_in rows = given_or_default (first_of (codes "budget") rows)

abbrev pub file_and_budget_in : (CommandWord → ℕ → PlainCommand) → RowReader
file_and_budget_in make rows =
    option_and_then (λ file. option_map (make file) (budget_in rows)) (first_of (codes "file") rows)

abbrev pub one_operand_in : CommandWord → (CommandWord → Option PlainCommand) → RowReader
one_operand_in id make rows = option_and_then make (first_of id rows)

abbrev pub two_operands_in : CommandWord → CommandWord → (CommandWord → CommandWord → PlainCommand)
    → RowReader
two_operands_in id other make rows =
    option_and_then (λ a. option_map (make a) (first_of other rows)) (first_of id rows)

abbrev pub three_operands_in : CommandWord → CommandWord → CommandWord
    → (CommandWord → CommandWord → CommandWord → Option PlainCommand) → RowReader
three_operands_in id other third make rows =
    let last = λ (a b : CommandWord). option_and_then (make a b) (first_of third rows) in
    option_and_then (λ a. option_and_then (last a) (first_of other rows)) (first_of id rows)

abbrev pub row_readers : List (CommandWord × RowReader)
row_readers =
    (codes "verify", file_and_budget_in verify)
    ∷ (codes "derive", file_and_budget_in derive)
    ∷ (codes "check", two_operands_in (codes "file") (codes "derivation") check)
    ∷ (codes "replay", two_operands_in (codes "file") (codes "schedule") replay)
    ∷ (codes "show", one_operand_in (codes "file") (λ file. Some (show file)))
    ∷ (
      codes "trial",
      one_operand_in (codes "number") (λ n. option_map trial (number_within 1 50 n)),
    )
    ∷ (codes "outline", two_operands_in (codes "file") (codes "derivation") outline)
    ∷ (
      codes "owners",
      three_operands_in (codes "file") (codes "derivation") (codes "schedule") owners_of,
    )
    ∷ (codes "stray", three_operands_in (codes "file") (codes "number") (codes "count") stray_of)
    ∷ (codes "core", one_operand_in (codes "file") (λ file. Some (core file)))
    ∷ []

-- what is read of the rows of the subcommand of this name
abbrev pub command_in : CommandWord → List Row → Option PlainCommand
command_in name rows =
    option_and_then (λ row. row.1 rows) (find (λ row. bytes_eq name row.0) row_readers)
