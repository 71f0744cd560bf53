-- The calls that make the parser.
use Rattle.std.proofs.Common.{◌≡◌, ◌∙◌, ◌+◌, ◌<◌, ◌++◌, ◌∷◌, ℕ, suc, [], true, List, Bor, map, drop, length, get_or, sym, ap, add-one, append_assoc, codes}
use Rattle.std.specs.Prelude.{fold, IfOk, Result, Ok, Err}
use Rattle.std.proofs.Math.Seq.{drop-cons}
use Rattle.clap.specs.Words.{AddsSubcommand, App, Rule, app_of, new_app, with_rule, with_subcommand}
use Rattle.clap.specs.Simple.{app_of_fields, on_top}
use Rattle.clap.specs.declared.builder.command.Command.{Command}
use Rattle.clap.specs.declared.builder.command.Command.TheViews.{out-Command}
use Rattle.clap.specs.declared.builder.command.Command.TheOpen.{Command-F}
use Rattle.cap_top_words.specs.Meaning.{CommandWord}
use Rattle.cap_top_words.specs.Parser.{IsSubcommand, bare_app, operand_rule, operand_rules, subcommand_of_rules, subcommands}

abbrev pub with_rules : List Rule → App → App
with_rules rules = on_top (λ s. record s { rules = s.rules ++ rules })

-- one rule more, and the others behind it
pub with_rules-cons : (old new : App) (r : Rule) (rules : List Rule) → new ≡ with_rule old r → with_rules rules new ≡ with_rules (r ∷ rules) old
with_rules-cons old new r rules e =
    ap (with_rules rules) e ∙ ap (λ (rs : List Rule). on_top (λ s. record s { rules = rs }) old) (append_assoc old.top.rules (r ∷ []) rules)

-- the same of the operands that are still to be added
pub operands_after : (ids : List (Bor CommandWord)) (i : ℕ) (d : Bor CommandWord) (old new whole : App) (r : Rule) → i < length ids → r ≡ operand_rule (get_or ids i d).now
    → new ≡ with_rule old r → with_rules (operand_rules (map (λ id. id.now) (drop i ids))) old ≡ whole
    → with_rules (operand_rules (map (λ id. id.now) (drop (i + 1) ids))) new ≡ whole
operands_after ids i d old new whole r inside is adds e =
    let others : List (Bor CommandWord) → List Rule = λ bs. operand_rules (map (λ id. id.now) bs) in
    rw (add-one i)
    (with_rules-cons old new r (others (drop (suc i) ids)) adds
    ∙ ap (λ (a : Rule). with_rules (a ∷ others (drop (suc i) ids)) old) is
    ∙ sym (ap (λ (bs : List (Bor CommandWord)). with_rules (others bs) old) (drop-cons ids i d inside))
    ∙ e)

pub added : {E : Type 0} (result : Result Command E) (old sub : Command) (name : CommandWord) (rules : List Rule) → IfOk result (λ new. AddsSubcommand old sub new) → IsSubcommand name rules sub
    → IfOk result (λ new. app_of new ≡ with_subcommand (app_of old) (subcommand_of_rules name rules))
added (Ok new) old sub name rules adds is = adds.shape is.1 ∙ ap (λ (b : App). with_subcommand (app_of old) b.top) is.0
added (Err e) old sub name rules adds is = tt

-- ---- the subcommands of a table

abbrev pub Row : Type 0
Row = Bor CommandWord × Bor (List (Bor CommandWord))

-- the subcommand of a row is added
abbrev pub with_row : App → Row → App
with_row app row = with_subcommand app (subcommand_of_rules row.0.now (operand_rules (map (λ id. id.now) row.1.now)))

-- one subcommand is added, and those behind it are still to be
pub rows_after : (table : List Row) (i : ℕ) (d : Row) (old new whole : App) → i < length table → new ≡ with_row old (get_or table i d)
    → fold with_row old (drop i table) ≡ whole → fold with_row new (drop (i + 1) table) ≡ whole
rows_after table i d old new whole inside adds e =
    rw (add-one i)
    (ap (λ (a : App). fold with_row a (drop (suc i) table)) adds
    ∙ sym (ap (fold with_row old) (drop-cons table i d inside))
    ∙ e)

-- the subcommands that have operands alone
abbrev pub with_others : App → App
with_others app = fold (λ a sub. with_subcommand a (subcommand_of_rules sub.0 sub.1)) app (drop 2 subcommands)

-- ---- the settings of the parser

abbrev no_binary_name : Command-F Command → Command-F Command
no_binary_name f = record f { no_binary_name = true }

abbrev no_help_flag : Command-F Command → Command-F Command
no_help_flag f = record f { disable_help_flag = true }

abbrev no_help_subcommand : Command-F Command → Command-F Command
no_help_subcommand f = record f { disable_help_subcommand = true }

abbrev subcommand_required : Command-F Command → Command-F Command
subcommand_required f = record f { subcommand_required = true }

abbrev all_set : App → App
all_set = on_top (λ s. record s {
  no_binary_name = true;
  disable_help_flag = true;
  disable_help_subcommand = true;
  subcommand_required = true;
})

pub bare_is : (c0 c1 c2 c3 c4 : Command) → app_of c0 ≡ new_app (codes "caper") → out-Command c1 ≡ no_binary_name (out-Command c0) → out-Command c2 ≡ no_help_flag (out-Command c1)
    → out-Command c3 ≡ no_help_subcommand (out-Command c2) → out-Command c4 ≡ subcommand_required (out-Command c3) → app_of c4 ≡ bare_app
bare_is c0 c1 c2 c3 c4 e0 e1 e2 e3 e4 =
    ap app_of_fields (e4 ∙ ap subcommand_required (e3 ∙ ap no_help_subcommand (e2 ∙ ap no_help_flag e1))) ∙ ap all_set e0
